use Rattle.wf_drawn.proofs.OnceLemmas.{page_nested}
use Rattle.wf_drawn.proofs.laws.a_page_is_nested.Goals as goal

pub returns : goal.returns
returns c = page_nested
