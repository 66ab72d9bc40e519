use Rattle.wf_meter.specs.PlanSeen.{plan_tree}
use Rattle.wf_metered.proofs.RestLemmas.{sums_are_of}
use Rattle.wf_metered.proofs.metered.Metered.rest.Goals as goal

pub returns-clause-sums : goal.returns-clause-sums
returns-clause-sums g c =
    let s = c.self.inside in
    let t = s.state in
    let a = g.A.Acts in
    rw (← c.self.view_is, c.rest.ensures.lists)
    (sums_are_of a.row_tree a.begun_tree a.decision_tree a.verdict_tree (a.graph t.0) (a.depth t.0) (a.source t.0) (plan_tree s.plan.now)
    c.self.invariant.0.plan t.1.0 t.1.1.0 t.1.1.1.0 c.is_reached.ensures c.is_listed.ensures.opens (a.cost_of_row t.0)
    (a.weight_of_begun t.0) (a.source t.0).items (a.weight_of_decision t.0) s.sums c.self.invariant.1)
