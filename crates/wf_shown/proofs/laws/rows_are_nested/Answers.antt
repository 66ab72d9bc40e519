use Rattle.wf_shown.proofs.SaidLemmas.{rows_nested}
use Rattle.wf_shown.proofs.laws.rows_are_nested.Goals as goal

pub returns : goal.returns
returns c = rows_nested
