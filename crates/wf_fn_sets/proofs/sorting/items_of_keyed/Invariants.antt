use Rattle.std.proofs.Common.{◌≡◌, map, take}
use Rattle.wf_val.specs.Seen.{tree}
use Rattle.wf_fn_sets.proofs.sorting.items_of_keyed.Given as goal

-- what is copied so far
abbrev pub invariant-loop-entry : goal.invariant-loop-entry
invariant-loop-entry l = l.items ≡ map (λ e. tree e.item.now) (take l.entry-index l.keyed)
