use Rattle.wf_paying.proofs.PartLemmas.{paid}
use Rattle.wf_paying.proofs.rows_pay_their_parts.Goals as goal

pub returns : goal.returns
returns c = λ d r e m answers f.
    paid d e f m answers (c.rows_tell_their_turns.ensures d r e m answers f) c.the_last_attempt_is_the_least.ensures.is
