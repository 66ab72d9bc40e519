use Rattle.std.proofs.Common.{◌≡◌, [], replicate}
use Rattle.wf_plan.specs.PlanSeen.{lists_of}
use Rattle.wf_plan.proofs.plan.empty.Given as goal

abbrev pub invariant-loop : goal.invariant-loop
invariant-loop l = lists_of l.table.items ≡ replicate l.counter []
