use Rattle.std.proofs.Common.{◌≡◌, ◌++◌, drop}
use Rattle.wf_plan.specs.PlanSeen.{plan_tree}
use Rattle.wf_tables.specs.Counts.{entered_counts}
use Rattle.wf_tables.proofs.graphs.entered.Given as goal

abbrev pub invariant-loop-action : goal.invariant-loop-action
invariant-loop-action l =
    l.counts.items ++ entered_counts (plan_tree l.plan) l.at (drop l.action-index l.graph) ≡ entered_counts (plan_tree l.plan) l.at l.graph
