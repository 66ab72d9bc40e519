use Rattle.std.proofs.Common.{◌≡◌, ◌*◌, ◌+◌, ◌++◌, drop, map}
use Rattle.wf_val.specs.Seen.{tree, member}
use Rattle.wf_val.specs.ValueTree.{node_count, trees, trees_count, members, members_count}
use Rattle.wf_leaves.specs.Texts.{items_of, members_of}
use Rattle.wf_leaves.proofs.texts.+data.Given as goal

abbrev pub decreases-data_of : goal.decreases-data_of
decreases-data_of l = 2 * node_count (tree l.value.now)

abbrev pub decreases-items_of : goal.decreases-items_of
decreases-items_of l = 2 * trees_count (trees l.items.now) + 1

abbrev pub decreases-members_of : goal.decreases-members_of
decreases-members_of l = 2 * members_count (members l.fields.now) + 1

-- what is found so far, and what is found in the rest, is what is found in all
abbrev pub invariant-items_of-loop-item : goal.invariant-items_of-loop-item
invariant-items_of-loop-item l = l.found ++ items_of (trees (map tree (drop l.item-index l.item-items))) ≡ items_of (trees l.items)

abbrev pub invariant-members_of-loop-name : goal.invariant-members_of-loop-name
invariant-members_of-loop-name l = l.found ++ members_of (members (map member (drop l.name-index l.name-items))) ≡ members_of (members l.fields)
