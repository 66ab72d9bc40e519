use Rattle.std.proofs.Common.{◌≡◌, ◌++◌, drop, map}
use Rattle.wf_def.specs.ActionSeen.{action_tree, graph_tree}
use Rattle.wf_def.specs.ActionTree.{action_trees, actions_in}
use Rattle.wf_catalog.specs.PlacesSeen.{named_tree}
use Rattle.wf_views.proofs.inner.in_graph.Given as goal

abbrev pub invariant-loop-action : goal.invariant-loop-action
invariant-loop-action l =
    map named_tree l.all.items ++ actions_in (action_trees (map action_tree (drop l.action-index l.action-items)))
    ≡ map named_tree l.fn.found.items ++ actions_in (graph_tree l.graph)
