use Rattle.std.proofs.Common.{◌≡◌, ◌*◌, ◌+◌, ◌++◌, drop, map}
use Rattle.wf_val.specs.Seen.{tree, member}
use Rattle.wf_val.specs.ValueTree.{members, node_count, members_count}
use Rattle.wf_def.specs.ActionSeen.{actions_seen, cases_seen}
use Rattle.wf_reading.specs.Graphs.{actions_of, each_case}
use Rattle.wf_reading.specs.Numbers.{number_among}
use Rattle.wf_reading.proofs.graphs.+graph.Given as goal

abbrev pub decreases-graph_of : goal.decreases-graph_of
decreases-graph_of l = 5 * node_count (tree l.value.now)

abbrev pub decreases-actions_of : goal.decreases-actions_of
decreases-actions_of l = 5 * members_count (members l.fields.now) + 4

abbrev pub decreases-action_of : goal.decreases-action_of
decreases-action_of l = 5 * node_count (tree l.value.now) + 3

abbrev pub decreases-kind_at : goal.decreases-kind_at
decreases-kind_at l = 5 * node_count (tree l.value.now) + 2

abbrev pub decreases-kind_of : goal.decreases-kind_of
decreases-kind_of l = 5 * members_count (members l.fields.now) + 6

abbrev pub decreases-graph_in : goal.decreases-graph_in
decreases-graph_in l = 5 * members_count (members l.fields.now) + 5

abbrev pub decreases-branch_in : goal.decreases-branch_in
decreases-branch_in l = 5 * members_count (members l.fields.now) + 5

abbrev pub decreases-branch_of : goal.decreases-branch_of
decreases-branch_of l = 5 * node_count (tree l.value.now) + 1

abbrev pub decreases-cases_in : goal.decreases-cases_in
decreases-cases_in l = 5 * members_count (members l.fields.now) + 5

abbrev pub decreases-cases_of : goal.decreases-cases_of
decreases-cases_of l = 5 * node_count (tree l.value.now)

abbrev pub decreases-each_case : goal.decreases-each_case
decreases-each_case l = 5 * members_count (members l.fields.now) + 4

abbrev pub decreases-case_of : goal.decreases-case_of
decreases-case_of l = 5 * node_count (tree l.value.now) + 2

-- the actions so far, and those that are left; and of cases
abbrev pub invariant-actions_of-loop-key : goal.invariant-actions_of-loop-key
invariant-actions_of-loop-key l =
    actions_seen l.actions ++ actions_of (number_among l.numbers) l.prefix (members (map member (drop l.key-index l.key-items)))
    ≡ actions_of (number_among l.numbers) l.prefix (members l.fields)

abbrev pub invariant-each_case-loop-key : goal.invariant-each_case-loop-key
invariant-each_case-loop-key l =
    cases_seen l.cases ++ each_case (number_among l.numbers) l.prefix (members (map member (drop l.key-index l.key-items)))
    ≡ each_case (number_among l.numbers) l.prefix (members l.fields)
