use Rattle.std.proofs.Common.{arith}
use Rattle.wf_meter.proofs.parts.weighed.Goals as goal

pub returns : goal.returns
returns c = λ w e. omega (arith, e, c.cut.ensures)
