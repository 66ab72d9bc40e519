use Rattle.wf_eval_expr.proofs.Fitting.{value-fits}
use Rattle.wf_eval_expr.proofs.laws.what_an_expression_gives_fits.Goals as goal

pub returns : goal.returns
returns c = value-fits
