use Rattle.std.proofs.Common.{◌∙◌}
use Rattle.wf_enter.specs.Instances.{rows_in}
use Rattle.wf_enter.specs.PlanSeen.{plan_tree}
use Rattle.wf_resting.specs.Resting.{waits_at}
use Rattle.wf_resting.proofs.RestingLemmas.{counts_of_all}
use Rattle.wf_resting.proofs.recount.first_waits.Goals as goal

pub returns : goal.returns
returns g c = λ x.
    let a = g.A.Acts in
    c.set_counts.ensures x
    ∙ counts_of_all (waits_at (plan_tree c.args.plan.now) (rows_in a.row_tree c.args.rows.now.0)) c.args.actions.now
    c.in_ok-counts.ensures c.new.ensures (c.in_ok-make_room.ensures.items ∙ c.new-waits.ensures) x
