use Rattle.wf_folds.proofs.PairedLaws.{pairs-are-the-row}
use Rattle.wf_folds.proofs.laws.pairs_are_the_row.Goals as goal

pub returns : goal.returns
returns c = pairs-are-the-row
