use Rattle.std.proofs.Common.{◌≡◌, ◌*◌, ◌+◌, ◌++◌, drop, map}
use Rattle.wf_val.specs.Seen.{tree}
use Rattle.wf_val.specs.ValueTree.{node_count, trees, trees_count, members, members_count}
use Rattle.wf_template.specs.CondSeen.{conds_seen}
use Rattle.wf_leaves.specs.Conditions.{conditions_of}
use Rattle.wf_leaves.proofs.conditions.+condition.Given as goal

abbrev pub decreases-condition_of : goal.decreases-condition_of
decreases-condition_of l = 3 * node_count (tree l.value.now)

abbrev pub decreases-condition_by : goal.decreases-condition_by
decreases-condition_by l = 3 * members_count (members l.fields.now) + 2

abbrev pub decreases-condition_named : goal.decreases-condition_named
decreases-condition_named l = 3 * node_count (tree l.value.now) + 1

abbrev pub decreases-conditions_in : goal.decreases-conditions_in
decreases-conditions_in l = 3 * node_count (tree l.value.now)

abbrev pub decreases-conditions_of : goal.decreases-conditions_of
decreases-conditions_of l = 3 * trees_count (trees l.items.now) + 2

-- the conditions so far, and those that are left
abbrev pub invariant-conditions_of-loop-item : goal.invariant-conditions_of-loop-item
invariant-conditions_of-loop-item l = conds_seen l.found ++ conditions_of (trees (map tree (drop l.item-index l.item-items))) ≡ conditions_of (trees l.items)
