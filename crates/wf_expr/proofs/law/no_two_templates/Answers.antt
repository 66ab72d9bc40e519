use Rattle.std.proofs.Common.{chars}
use Rattle.wf_expr.proofs.Scans.{derives_one, one_length, fits_or_not}
use Rattle.wf_expr.proofs.law.no_two_templates.Goals as goal

pub returns : goal.returns
returns c = record {
  one_template = λ text. derives_one (chars text);
  one_length = λ text. one_length (chars text);
  not_both = λ text. fits_or_not (chars text);
}
