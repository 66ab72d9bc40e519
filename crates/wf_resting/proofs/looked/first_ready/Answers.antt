use Rattle.std.proofs.Common.{◌∙◌}
use Rattle.wf_enter.specs.Instances.{rows_in}
use Rattle.wf_enter.specs.Known.{opens_in}
use Rattle.wf_enter.specs.PlanSeen.{plan_tree}
use Rattle.wf_enter.specs.Tables.{count_in, left_in}
use Rattle.wf_resting.specs.Resting.{resting_at}
use Rattle.wf_resting.proofs.RestingLemmas.{looks_of_all}
use Rattle.wf_resting.proofs.looked.first_ready.Goals as goal

pub returns : goal.returns
returns g c = λ x.
    let a = g.A.Acts in
    c.in_ok-look_at_all.ensures x
    ∙ looks_of_all (resting_at (a.source c.args.acts.now) (plan_tree c.args.plan.now) (rows_in a.row_tree c.args.rows.now.0)
    (opens_in a.decision_tree a.verdict_tree c.args.opens.now.0) (count_in c.args.waits.now.0) (count_in c.args.lacks.now.0)
    (left_in c.args.opens.now.0)) c.args.actions.now c.new-top.ensures (c.in_ok-make_room.ensures.items ∙ c.new-ready.ensures) x
