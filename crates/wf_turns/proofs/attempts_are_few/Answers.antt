use Rattle.wf_turns.proofs.RangeLemmas.{all_ranges}
use Rattle.wf_turns.proofs.TurnLemmas.{attempts_few}
use Rattle.wf_turns.proofs.attempts_are_few.Goals as goal

pub returns : goal.returns
returns c = λ d r e x known.
    attempts_few c.the_last_attempt_is_the_least.ensures.few c.the_last_attempt_is_the_least.ensures.kept d e x known
    (all_ranges d.top (c.numbers_have_their_ranges.ensures d r))
