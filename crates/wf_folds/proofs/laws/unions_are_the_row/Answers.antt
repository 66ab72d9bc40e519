use Rattle.wf_folds.proofs.UnitedLaws.{unions-are-the-row}
use Rattle.wf_folds.proofs.laws.unions_are_the_row.Goals as goal

pub returns : goal.returns
returns c = unions-are-the-row
