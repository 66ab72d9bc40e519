use Rattle.std.proofs.Common.{◌≡◌, drop, map}
use Rattle.wf_def.specs.ActionTree.{action_trees, case_trees}
use Rattle.wf_def.specs.ActionSeen.{action_tree, case_tree, cases_seen, graph_tree, kind_tree}
use Rattle.wf_def.specs.Names.{action_size, cases_size, find_cases, find_in, graph_size, kind_size}
use Rattle.wf_def.proofs.graph.+find.Given as goal

abbrev pub decreases-Action::find : goal.decreases-Action::find
decreases-Action::find l = action_size (action_tree l.self.now)

abbrev pub decreases-Cases::find : goal.decreases-Cases::find
decreases-Cases::find l = cases_size (case_trees (cases_seen l.self.now))

abbrev pub decreases-Graph::find : goal.decreases-Graph::find
decreases-Graph::find l = graph_size (graph_tree l.self.now)

abbrev pub decreases-Kind::find : goal.decreases-Kind::find
decreases-Kind::find l = kind_size (kind_tree l.self.now)

-- what is found in the rest is what is found in all
abbrev pub invariant-Cases::find-loop-case : goal.invariant-Cases::find-loop-case
invariant-Cases::find-loop-case l = find_cases l.name (case_trees (map case_tree (drop l.case-index l.case-items)))
    ≡ find_cases l.name (case_trees (cases_seen l.self))

abbrev pub invariant-Graph::find-loop-action : goal.invariant-Graph::find-loop-action
invariant-Graph::find-loop-action l = find_in l.name (action_trees (map action_tree (drop l.action-index l.action-items)))
    ≡ find_in l.name (graph_tree l.self)
