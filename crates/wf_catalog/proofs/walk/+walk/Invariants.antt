use Rattle.std.proofs.Common.{◌≡◌, ◌++◌, drop, map}
use Rattle.wf_def.specs.ActionTree.{action_trees, case_trees}
use Rattle.wf_def.specs.ActionSeen.{action_tree, case_tree, cases_seen, graph_tree, kind_tree}
use Rattle.wf_def.specs.Names.{action_size, cases_size, graph_size, kind_size}
use Rattle.wf_catalog.specs.Walk.{cases_walk, graph_walk}
use Rattle.wf_catalog.specs.WalkSeen.{walked}
use Rattle.wf_catalog.proofs.walk.+walk.Given as goal

abbrev pub decreases-in_graph : goal.decreases-in_graph
decreases-in_graph l = graph_size (graph_tree l.graph.now)

abbrev pub decreases-in_action : goal.decreases-in_action
decreases-in_action l = action_size (action_tree l.action.now)

abbrev pub decreases-in_kind : goal.decreases-in_kind
decreases-in_kind l = kind_size (kind_tree l.kind.now)

abbrev pub decreases-in_cases : goal.decreases-in_cases
decreases-in_cases l = cases_size (case_trees (cases_seen l.cases.now))

-- what is found so far, and what is left
abbrev pub invariant-in_graph-loop-action : goal.invariant-in_graph-loop-action
invariant-in_graph-loop-action l =
    map walked l.all.items ++ graph_walk l.round (action_trees (map action_tree (drop l.action-index l.action-items)))
    ≡ map walked l.fn.found.items ++ graph_walk l.round (graph_tree l.graph)

abbrev pub invariant-in_cases-loop-case : goal.invariant-in_cases-loop-case
invariant-in_cases-loop-case l =
    map walked l.all.items ++ cases_walk l.round (case_trees (map case_tree (drop l.case-index l.case-items)))
    ≡ map walked l.fn.found.items ++ cases_walk l.round (case_trees (cases_seen l.cases))
