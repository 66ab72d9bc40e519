use Rattle.std.proofs.Common.{◌≡◌, map, drop}
use Rattle.std.specs.List.{filter, list_all}
use Rattle.wf_fn_sets.specs.Keys.{key_tree}
use Rattle.wf_fn_list.specs.Membership.{is_among}
use Rattle.wf_fn_sets.proofs.sets.in_all.Given as goal

-- of those kept, those that the rest of the lists have, are those that all have
abbrev pub invariant-loop-list : goal.invariant-loop-list
invariant-loop-list l =
    filter (λ x. list_all (λ ys. is_among ys x) (map (λ y. y.now) (drop l.list-index l.lists))) (map key_tree l.kept.items)
    ≡ filter (λ x. list_all (λ ys. is_among ys x) (map (λ y. y.now) l.lists)) (map key_tree l.fn.values.items)
