use Rattle.wf_enter.specs.Instances.{rows_in}
use Rattle.wf_enter.specs.PlanSeen.{plan_tree}
use Rattle.wf_resting.proofs.RestingLemmas.{entered_lacks}
use Rattle.wf_resting.proofs.recount.lacks_at.Goals as goal

pub returns-in-Some-clause-count : goal.returns-in-Some-clause-count
returns-in-Some-clause-count g c =
    let a = g.A.Acts in
    entered_lacks c.args.place.now c.args.opens.now.0 c.in-Some.open.now c.in-Some.ensures a.decision_tree a.verdict_tree
    (a.source c.args.acts.now).taken (plan_tree c.args.plan.now) (rows_in a.row_tree c.args.rows.now.0) c.lacking_in.result
    c.entered.result.now c.taken-taken.result c.lacking_in.ensures.count c.entered.ensures c.taken-taken.ensures
