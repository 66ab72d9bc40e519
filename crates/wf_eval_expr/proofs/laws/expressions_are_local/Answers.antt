use Rattle.wf_eval_expr.proofs.Local.{value-local}
use Rattle.wf_eval_expr.proofs.laws.expressions_are_local.Goals as goal

pub returns : goal.returns
returns c = value-local
