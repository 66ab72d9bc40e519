use Rattle.std.proofs.Common.{◌≡◌, ◌++◌, drop}
use Rattle.wf_plan.specs.Plan.{passed_but}
use Rattle.wf_plan.specs.PlanSeen.{branches_seen}
use Rattle.wf_plan.proofs.shape.passed_but.Given as goal

-- what is found so far, and what is left
abbrev pub invariant-loop-branch : goal.invariant-loop-branch
invariant-loop-branch l =
    l.numbers.items ++ passed_but (branches_seen (drop l.branch-index l.branches)) l.next ≡ passed_but (branches_seen l.branches) l.taken
