use Rattle.wf_drawn.proofs.OnceLemmas.{drawn_once}
use Rattle.wf_drawn.proofs.laws.each_action_is_drawn_once.Goals as goal

pub returns : goal.returns
returns c = drawn_once
