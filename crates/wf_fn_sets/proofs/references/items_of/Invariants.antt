use Rattle.std.proofs.Common.{◌≡◌, map, take}
use Rattle.std.specs.List.{flat_map}
use Rattle.wf_fn_sets.specs.Keys.{key_tree}
use Rattle.wf_fn_sets.proofs.references.items_of.Given as goal

-- the items of the lists so far
abbrev pub invariant-loop-list : goal.invariant-loop-list
invariant-loop-list l = map key_tree l.items.items ≡ flat_map (λ x. x.now) (take l.list-index l.lists)
