use Rattle.std.proofs.Common.{◌∙◌, arith, refl}
use Rattle.wf_events.specs.PlanSeen.{plan_tree}
use Rattle.wf_events.specs.Tables.{count_in}
use Rattle.wf_steps.proofs.FreshLemmas.{counts_done, counts_more, counts_of_top}
use Rattle.wf_steps.proofs.fresh.first_waits.Goals as goal

pub loop-action-preserved : goal.loop-action-preserved
loop-action-preserved c = λ x.
    counts_more (plan_tree c.args.plan.now) c.top-top.result.now c.loop-action.action-index c.loop-action-test.true
    (count_in c.loop-action.waits.0) (count_in c.add_count.new.waits.0) c.new.result c.new.ensures
    c.needs_of-count.result c.needs_of-count.ensures c.in_ok-add_count.ensures x
    ∙ c.loop-action.invariant x

pub returns : goal.returns
returns c = λ x.
    counts_done (plan_tree c.args.plan.now) c.top-top.result.now c.loop-action.action-index (omega (arith, c.loop-action-test.false))
    (count_in c.loop-action.waits.0) x
    ∙ c.loop-action.invariant x
    ∙ counts_of_top (plan_tree c.args.plan.now) refl refl c.top-top.ensures refl x
