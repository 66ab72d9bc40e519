use Rattle.std.proofs.Common.{◌≡◌, map, take}
use Rattle.wf_fn_sets.specs.Keys.{key_tree}
use Rattle.wf_fn_sets.proofs.sets.items_of_placed.Given as goal

-- the items so far
abbrev pub invariant-loop-one : goal.invariant-loop-one
invariant-loop-one l = map key_tree l.items.items ≡ map (λ e. key_tree e.item) (take l.one-index l.placed)
