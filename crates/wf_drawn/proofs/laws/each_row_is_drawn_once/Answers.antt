use Rattle.wf_drawn.proofs.OnceLemmas.{rows_drawn_once}
use Rattle.wf_drawn.proofs.laws.each_row_is_drawn_once.Goals as goal

pub returns : goal.returns
returns c = rows_drawn_once
