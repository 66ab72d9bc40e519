use Rattle.wf_fn_text.proofs.LawLemmas.{joined-pieces}
use Rattle.wf_fn_text.proofs.laws.replacing_by_itself_changes_nothing.Goals as goal

pub returns : goal.returns
returns c = joined-pieces
