use Rattle.wf_turns.proofs.BackLemmas.{reads_back}
use Rattle.wf_turns.proofs.rows_tell_what_was_decided.Goals as goal

pub returns : goal.returns
returns c = λ d e f. reads_back c.what_ran_is_not_skipped.ensures d e f
