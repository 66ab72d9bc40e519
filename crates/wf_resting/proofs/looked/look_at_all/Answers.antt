use Rattle.std.proofs.Common.{◌∙◌, arith}
use Rattle.wf_enter.specs.Instances.{rows_in}
use Rattle.wf_enter.specs.Known.{opens_in}
use Rattle.wf_enter.specs.PlanSeen.{plan_tree}
use Rattle.wf_enter.specs.Tables.{count_in, events_in, left_in}
use Rattle.wf_resting.specs.Resting.{resting_at}
use Rattle.wf_resting.proofs.RestingLemmas.{looked_done, looked_next, room_next}
use Rattle.wf_resting.proofs.looked.look_at_all.Goals as goal

pub loop-action-preserved : goal.loop-action-preserved
loop-action-preserved g c =
    let a = g.A.Acts in
    let look = resting_at (a.source c.args.acts.now) (plan_tree c.args.plan.now) (rows_in a.row_tree c.args.rows.now.0)
    (opens_in a.decision_tree a.verdict_tree c.args.opens.now.0) (count_in c.args.waits.now.0) (count_in c.args.lacks.now.0)
    (left_in c.args.opens.now.0) in record {
      room = room_next c.args.actions.now c.loop-action.action-index c.loop-action-test.true
          c.loop-action.ready.1 c.look_at_standing.new.ready.1 c.loop-action.invariant.room c.look_at_standing.ensures.room;
      events = λ x. looked_next look c.args.at.now c.args.actions.now c.loop-action.action-index
          c.loop-action-test.true (events_in c.loop-action.ready.0) (events_in c.look_at_standing.new.ready.0)
          c.in_ok-copy.field-0 c.in_ok-copy.ensures
          c.look_at_standing.ensures.events x
          ∙ c.loop-action.invariant.events x;
    }

pub returns : goal.returns
returns g c x =
    let a = g.A.Acts in
    looked_done (resting_at (a.source c.args.acts.now) (plan_tree c.args.plan.now) (rows_in a.row_tree c.args.rows.now.0)
    (opens_in a.decision_tree a.verdict_tree c.args.opens.now.0) (count_in c.args.waits.now.0) (count_in c.args.lacks.now.0)
    (left_in c.args.opens.now.0)) c.args.at.now c.args.actions.now c.loop-action.action-index (omega (arith, c.loop-action-test.false))
    (events_in c.loop-action.ready.0) x
    ∙ c.loop-action.invariant.events x
