use Rattle.std.proofs.Common.{◌≡◌, None, replicate}
use Rattle.wf_plan.proofs.plan.free.Given as goal

abbrev pub invariant-loop : goal.invariant-loop
invariant-loop g l = l.table.items ≡ replicate l.counter None
