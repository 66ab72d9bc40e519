use Rattle.std.proofs.Common.{◌≡◌, ◌*◌, ◌+◌, drop, map}
use Rattle.wf_val.specs.Seen.{tree}
use Rattle.wf_val.specs.ValueTree.{members, node_count, members_count, trees, trees_count}
use Rattle.wf_kinds.specs.Conditions.{are_conditions}
use Rattle.wf_kinds.proofs.condition.+condition.Given as goal

abbrev pub decreases-is_condition : goal.decreases-is_condition
decreases-is_condition l = 4 * node_count (tree l.value.now)

abbrev pub decreases-is_one_operation : goal.decreases-is_one_operation
decreases-is_one_operation l = 4 * members_count (members l.fields.now) + 2

abbrev pub decreases-is_operation : goal.decreases-is_operation
decreases-is_operation l = 4 * node_count (tree l.operand.now) + 1

abbrev pub decreases-is_list_of_conditions : goal.decreases-is_list_of_conditions
decreases-is_list_of_conditions l = 4 * node_count (tree l.value.now)

abbrev pub decreases-are_conditions : goal.decreases-are_conditions
decreases-are_conditions l = 4 * trees_count (trees l.items.now) + 1

abbrev pub invariant-are_conditions-loop-item : goal.invariant-are_conditions-loop-item
invariant-are_conditions-loop-item l = are_conditions (trees (map tree (drop l.item-index l.item-items))) ≡ are_conditions (trees l.items)
