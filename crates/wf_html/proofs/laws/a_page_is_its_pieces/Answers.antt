use Rattle.wf_html.proofs.PieceLemmas.{written_flat}
use Rattle.wf_html.proofs.laws.a_page_is_its_pieces.Goals as goal

pub returns : goal.returns
returns c = written_flat
