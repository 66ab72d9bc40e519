use Rattle.wf_tap.proofs.PointLemmas.{each_tells}
use Rattle.wf_tap.proofs.laws.each_outcome_has_one_line.Goals as goal

pub returns : goal.returns
returns c = each_tells
