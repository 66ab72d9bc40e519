use Rattle.wf_turns.proofs.RangeLemmas.{all_ranges}
use Rattle.wf_turns.proofs.TurnLemmas.{tells}
use Rattle.wf_turns.proofs.rows_tell_their_turns.Goals as goal

pub returns : goal.returns
returns c = λ d r e m answers f. tells d (all_ranges d.top (c.numbers_have_their_ranges.ensures d r)) e f m answers
