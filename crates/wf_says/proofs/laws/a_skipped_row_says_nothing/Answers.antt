use Rattle.wf_says.proofs.SaysLemmas.{says_nothing}
use Rattle.wf_says.proofs.laws.a_skipped_row_says_nothing.Goals as goal

pub returns : goal.returns
returns c = says_nothing
