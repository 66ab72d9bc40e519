use Rattle.std.proofs.Common.{◌≡◌, drop}
use Rattle.wf_plan.specs.PlanSeen.{branches_seen}
use Rattle.wf_plan.specs.Walk.{all_own, held}
use Rattle.wf_plan.proofs.tables.hold_branches.Given as goal

abbrev pub invariant-loop-branch : goal.invariant-loop-branch
invariant-loop-branch l =
    held l.table.items (all_own (branches_seen (drop l.branch-index l.branches))) l.holder
    ≡ held l.fn.table.items (all_own (branches_seen l.branches)) l.holder
