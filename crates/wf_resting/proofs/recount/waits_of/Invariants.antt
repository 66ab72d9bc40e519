use Rattle.std.proofs.Common.{◌≡◌, ◌++◌, drop}
use Rattle.wf_enter.specs.Instances.{rows_in}
use Rattle.wf_enter.specs.PlanSeen.{plan_tree}
use Rattle.wf_resting.specs.Resting.{counts_at, waits_at}
use Rattle.wf_resting.proofs.recount.waits_of.Given as goal

abbrev pub invariant-loop-action : goal.invariant-loop-action
invariant-loop-action g l =
    let count = waits_at (plan_tree l.plan) (rows_in g.A.Acts.row_tree l.rows.0) in
    l.counts.items ++ counts_at count l.at (drop l.action-index l.actions) ≡ counts_at count l.at l.actions
