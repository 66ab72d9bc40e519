use Rattle.std.proofs.Common.{arith}
use Rattle.wf_plan.proofs.GraphLemmas.{some_taken}
use Rattle.wf_plan.proofs.shape.taken_at.Goals as goal

pub returns-else-taken-eq0 : goal.returns-else-taken-eq0
returns-else-taken-eq0 c =
    some_taken c.args.branches.now c.args.taken c.branch_at.result c.branch_at.ensures (omega (arith, c.if-taken-eq0.false))
