use Rattle.std.proofs.Common.{[], ◌∙◌, arith, refl}
use Rattle.wf_events.specs.Instances.{rows_in}
use Rattle.wf_events.specs.PlanSeen.{plan_tree}
use Rattle.wf_events.specs.Looked.{idle_at}
use Rattle.wf_events.specs.Tables.{count_in, events_in}
use Rattle.wf_resting.proofs.RestingLemmas.{looked_done, looked_next}
use Rattle.wf_steps.proofs.FreshLemmas.{events_of_top}
use Rattle.wf_steps.proofs.fresh.first_ready.Goals as goal

pub loop-action-preserved : goal.loop-action-preserved
loop-action-preserved g c = λ x.
    let a = g.A.Acts in
    let look = idle_at (a.source c.args.acts.now) (rows_in a.row_tree c.args.rows.now.0) (count_in c.args.waits.now.0)
    (plan_tree c.args.plan.now) in
    looked_next look [] c.top-top.result.now c.loop-action.action-index c.loop-action-test.true (events_in c.loop-action.ready.0)
    (events_in c.look_at.new.ready.0) c.new.result c.new.ensures
    (rw c.in_ok-make_room.ensures.items at c.look_at.ensures.events) x
    ∙ c.loop-action.invariant x

pub returns : goal.returns
returns g c = λ x.
    let a = g.A.Acts in
    let look = idle_at (a.source c.args.acts.now) (rows_in a.row_tree c.args.rows.now.0) (count_in c.args.waits.now.0)
    (plan_tree c.args.plan.now) in
    looked_done look [] c.top-top.result.now c.loop-action.action-index (omega (arith, c.loop-action-test.false))
    (events_in c.loop-action.ready.0) x
    ∙ c.loop-action.invariant x
    ∙ events_of_top look refl refl c.top-top.ensures refl x
