use Rattle.std.proofs.Common.{◌≡◌, ◌+◌, ◌*◌, map, drop, []}
use Rattle.wf_template.specs.DataTree.{data_trees, data_members, node_count, trees_count, members_count}
use Rattle.wf_template.specs.DataSeen.{data_tree, data_member}
use Rattle.wf_eval_expr.specs.Outcomes.{all_after}
use Rattle.wf_eval.specs.TreeValue.{tree_runs, member_runs, members_after}
use Rattle.wf_eval.proofs.tree.+eval_tree.Given as goal

abbrev pub invariant-eval_items-loop-item : goal.invariant-eval_items-loop-item
invariant-eval_items-loop-item g l = record {
  so_far :
      all_after (tree_runs (g.L.Look.told l.fn.look) (data_trees (map data_tree (drop l.item-index l.items)))) l.values
      (g.L.Look.drawn l.look)
      ≡ all_after (tree_runs (g.L.Look.told l.fn.look) (data_trees (map data_tree l.items))) [] (g.L.Look.drawn l.fn.look);
  same : g.L.Look.told l.look ≡ g.L.Look.told l.fn.look;
  held : g.L.Look.held l.look ≡ g.L.Look.held l.fn.look;
}

abbrev pub invariant-eval_members-loop-member : goal.invariant-eval_members-loop-member
invariant-eval_members-loop-member g l = record {
  so_far :
      members_after (member_runs (g.L.Look.told l.fn.look) (data_members (map data_member (drop l.member-index l.members)))) l.values
      (g.L.Look.drawn l.look)
      ≡ members_after (member_runs (g.L.Look.told l.fn.look) (data_members (map data_member l.members))) [] (g.L.Look.drawn l.fn.look);
  same : g.L.Look.told l.look ≡ g.L.Look.told l.fn.look;
  held : g.L.Look.held l.look ≡ g.L.Look.held l.fn.look;
}

abbrev pub decreases-eval_tree : goal.decreases-eval_tree
decreases-eval_tree g l = 2 * node_count (data_tree l.t.now)

abbrev pub decreases-eval_items : goal.decreases-eval_items
decreases-eval_items g l = 2 * trees_count (data_trees (map data_tree l.items.now)) + 1

abbrev pub decreases-eval_members : goal.decreases-eval_members
decreases-eval_members g l = 2 * members_count (data_members (map data_member l.members.now)) + 1
