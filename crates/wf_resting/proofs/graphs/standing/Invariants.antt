use Rattle.std.proofs.Common.{◌≡◌, ◌++◌, drop}
use Rattle.wf_enter.specs.PlanSeen.{plan_tree}
use Rattle.wf_resting.specs.Resting.{all_entered, standing}
use Rattle.wf_resting.proofs.graphs.standing.Given as goal

-- those of the containers so far, and those of the containers that are left, are all
abbrev pub invariant-loop-place : goal.invariant-loop-place
invariant-loop-place g l =
    let a = g.A.Acts in
    let p = plan_tree l.plan in
    let taken = (a.source l.acts).taken in
    l.numbers.items ++ all_entered p a.decision_tree taken (drop l.place l.opens.0) ≡ standing p a.decision_tree taken l.opens.0
