use Rattle.wf_fn_text.proofs.LawLemmas.{joined-pieces}
use Rattle.wf_fn_text.proofs.laws.pieces_make_the_text_again.Goals as goal

pub returns : goal.returns
returns c = joined-pieces
