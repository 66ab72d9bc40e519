use Rattle.std.proofs.Common.{◌∙◌}
use Rattle.wf_meter.specs.PlanSeen.{plan_tree}
use Rattle.wf_metered.proofs.MeteredLemmas.{total_is}
use Rattle.wf_metered.proofs.metered.Metered.cost.Goals as goal

pub returns : goal.returns
returns g c =
    let s = c.self.inside in
    let t = s.state in
    let a = g.A.Acts in
    rw (← c.self.view_is) (c.total.ensures
    ∙ total_is a.row_tree a.begun_tree a.decision_tree a.verdict_tree (a.graph t.0) (a.depth t.0) (a.source t.0)
    (plan_tree s.plan.now) c.self.invariant.0.plan (a.cost_of_row t.0) (a.weight_of_begun t.0) (a.weight_of_decision t.0) t.1.0 t.1.1.0
    t.1.1.1.0 c.is_reached.ensures c.is_listed.ensures.rows c.is_listed.ensures.running c.is_listed.ensures.opens s.sums
    c.self.invariant.1)
