use Rattle.std.proofs.Common.{◌≡◌, ◌++◌, map, take}
use Rattle.wf_val.specs.Seen.{tree}
use Rattle.wf_fn_sets.specs.Keys.{key_tree}
use Rattle.wf_fn_sets.proofs.references.push_items.Given as goal

-- the items so far behind those that were there
abbrev pub invariant-loop-item : goal.invariant-loop-item
invariant-loop-item l =
    map key_tree l.items.items ≡ map key_tree l.initial.items.items ++ map tree (take l.item-index l.item-items)
