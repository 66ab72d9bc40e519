use Rattle.std.proofs.Common.{◌≡◌, ◌++◌, map, drop}
use Rattle.std.specs.List.{filter}
use Rattle.wf_fn_sets.specs.Keys.{key_tree}
use Rattle.wf_fn_list.specs.Membership.{is_among}
use Rattle.wf_fn_sets.proofs.sets.those_in.Given as goal

-- those found, with those that the list has of the rest, are those of all
abbrev pub invariant-loop-value : goal.invariant-loop-value
invariant-loop-value l =
    map key_tree l.found.items ++ filter (is_among l.list) (map key_tree (drop l.value-index l.values))
    ≡ filter (is_among l.list) (map key_tree l.values)
