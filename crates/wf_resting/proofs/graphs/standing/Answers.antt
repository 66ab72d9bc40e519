use Rattle.wf_enter.specs.PlanSeen.{plan_tree}
use Rattle.wf_resting.proofs.RestingLemmas.{standing_next}
use Rattle.wf_resting.proofs.graphs.standing.Goals as goal

pub loop-place-preserved : goal.loop-place-preserved
loop-place-preserved g c =
    let a = g.A.Acts in
    standing_next (plan_tree c.args.plan.now) a.decision_tree (a.source c.args.acts.now).taken c.args.opens.now.0
    c.loop-place.place c.at-open.result.now c.at-open.ensures.item c.loop-place.numbers.items c.taken-taken.result
    c.in_ok-append.ensures c.entered.ensures c.taken-taken.ensures
    c.loop-place.invariant
