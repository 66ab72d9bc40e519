use Rattle.wf_turns.proofs.RangeLemmas.{all_ranges}
use Rattle.wf_turns.proofs.TurnLemmas.{tells_again}
use Rattle.wf_turns.proofs.resubmitted_rows_tell_their_turns.Goals as goal

pub returns : goal.returns
returns c = λ d r e redo again old recall f.
    tells_again d (all_ranges d.top (c.numbers_have_their_ranges.ensures d r)) e f redo again old recall
