use Rattle.std.proofs.Common.{◌≡◌, drop, map}
use Rattle.wf_def.specs.ActionSeen.{action_tree, graph_tree}
use Rattle.wf_def.specs.ActionTree.{action_trees, actions_in}
use Rattle.wf_record.specs.Seen.{record_tree}
use Rattle.wf_shaped.specs.Least.{least_from}
use Rattle.wf_shaped.specs.Told.{indexes_inside, instances_of, missing}
use Rattle.wf_shaped.proofs.missing.missing_in_graph.Given as goal

abbrev pub invariant-loop-action : goal.invariant-loop-action
invariant-loop-action l =
    least_from l.least.address (missing (record_tree l.log).rows
    (instances_of (indexes_inside l.at l.turns) (actions_in (action_trees (map action_tree (drop l.action-index l.action-items))))))
    ≡ least_from l.fn.least.address (missing (record_tree l.log).rows
    (instances_of (indexes_inside l.at l.turns) (actions_in (graph_tree l.graph))))
