use Rattle.std.proofs.Common.{chars}
use Rattle.wf_expr.proofs.Scans.{decided}
use Rattle.wf_expr.proofs.law.a_template_or_a_fault.Goals as goal

pub returns : goal.returns
returns c = λ text. decided (chars text)
