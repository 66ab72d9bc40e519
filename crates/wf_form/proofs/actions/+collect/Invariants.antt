use Rattle.std.proofs.Common.{◌≡◌, ◌*◌, ◌+◌, ◌++◌, drop, map}
use Rattle.wf_val.specs.Seen.{tree, member}
use Rattle.wf_val.specs.ValueTree.{members, node_count, members_count}
use Rattle.wf_form.specs.Actions.{actions_among}
use Rattle.wf_form.proofs.actions.+collect.Given as goal

abbrev pub decreases-collect : goal.decreases-collect
decreases-collect l = 3 * node_count (tree l.entry.now.1)

abbrev pub decreases-collect_part : goal.decreases-collect_part
decreases-collect_part l = 3 * node_count (tree l.entry.now.1) + 1

abbrev pub decreases-collect_among : goal.decreases-collect_among
decreases-collect_among l = 3 * members_count (members l.fields.now) + 2

-- what is found so far, and what is left
abbrev pub invariant-collect_among-loop-entry : goal.invariant-collect_among-loop-entry
invariant-collect_among-loop-entry l =
    map (λ m. member m.now) l.all.items ++ actions_among l.role l.holder (members (map member (drop l.entry-index l.entry-items)))
    ≡ map (λ m. member m.now) l.fn.found.items ++ actions_among l.role l.holder (members l.fields)
