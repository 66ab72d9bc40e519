use Rattle.std.proofs.Common.{◌≡◌, ◌++◌, drop, map}
use Rattle.wf_def.specs.ActionSeen.{action_tree, graph_tree}
use Rattle.wf_def.specs.ActionTree.{action_trees}
use Rattle.wf_def.specs.Layered.{layered}
use Rattle.wf_plan.specs.Plan.{own_numbers}
use Rattle.wf_plan.proofs.shape.numbers_of.Given as goal

abbrev pub invariant-loop-action : goal.invariant-loop-action
invariant-loop-action l =
    l.numbers.items ++ own_numbers (layered (action_trees (map action_tree (drop l.action-index l.action-items))))
    ≡ own_numbers (layered (graph_tree l.graph))
