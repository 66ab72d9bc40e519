use Rattle.std.proofs.Common.{◌≡◌, ◌++◌, ◌+◌, ◌*◌, map, drop}
use Rattle.wf_template.specs.DataTree.{data_trees, data_members, node_count, trees_count, members_count}
use Rattle.wf_template.specs.DataSeen.{data_tree, data_member}
use Rattle.wf_eval.specs.Uses.{members_uses, trees_uses}
use Rattle.wf_uses.specs.Seen.{found_uses}
use Rattle.wf_refs.proofs.templates.+trees.Given as goal

-- what is found so far, and what is left
abbrev pub invariant-in_trees-loop-item : goal.invariant-in_trees-loop-item
invariant-in_trees-loop-item l =
    found_uses l.all.items ++ trees_uses (data_trees (map data_tree (drop l.item-index l.items)))
    ≡ found_uses l.fn.found.items ++ trees_uses (data_trees (map data_tree l.items))

abbrev pub invariant-in_members-loop-member : goal.invariant-in_members-loop-member
invariant-in_members-loop-member l =
    found_uses l.all.items ++ members_uses (data_members (map data_member (drop l.member-index l.members)))
    ≡ found_uses l.fn.found.items ++ members_uses (data_members (map data_member l.members))

abbrev pub decreases-in_tree : goal.decreases-in_tree
decreases-in_tree l = 2 * node_count (data_tree l.tree.now)

abbrev pub decreases-in_trees : goal.decreases-in_trees
decreases-in_trees l = 2 * trees_count (data_trees (map data_tree l.items.now)) + 1

abbrev pub decreases-in_members : goal.decreases-in_members
decreases-in_members l = 2 * members_count (data_members (map data_member l.members.now)) + 1
