use Rattle.wf_enter.specs.Instances.{rows_in}
use Rattle.wf_enter.specs.PlanSeen.{plan_tree}
use Rattle.wf_resting.specs.Resting.{waits_at}
use Rattle.wf_resting.proofs.RestingLemmas.{counts_next}
use Rattle.wf_resting.proofs.recount.waits_of.Goals as goal

pub loop-action-preserved : goal.loop-action-preserved
loop-action-preserved g c =
    counts_next (waits_at (plan_tree c.args.plan.now) (rows_in g.A.Acts.row_tree c.args.rows.now.0)) c.args.at.now c.args.actions.now
    c.loop-action.action-index c.loop-action-test.true c.loop-action.counts.items c.in_ok-push.ensures.items
    (rw c.in_ok-copy.ensures at c.wait_count.ensures) c.loop-action.invariant
