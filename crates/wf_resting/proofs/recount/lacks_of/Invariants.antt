use Rattle.std.proofs.Common.{◌≡◌, ◌++◌, drop}
use Rattle.wf_enter.specs.Instances.{rows_in}
use Rattle.wf_enter.specs.Known.{opens_in}
use Rattle.wf_enter.specs.PlanSeen.{plan_tree}
use Rattle.wf_resting.specs.Resting.{counts_at, lacks_at}
use Rattle.wf_resting.proofs.recount.lacks_of.Given as goal

abbrev pub invariant-loop-action : goal.invariant-loop-action
invariant-loop-action g l =
    let a = g.A.Acts in
    let count = lacks_at (plan_tree l.plan) (a.source l.acts).taken (rows_in a.row_tree l.rows.0)
    (opens_in a.decision_tree a.verdict_tree l.opens.0) in
    l.counts.items ++ counts_at count l.at (drop l.action-index l.actions) ≡ counts_at count l.at l.actions
