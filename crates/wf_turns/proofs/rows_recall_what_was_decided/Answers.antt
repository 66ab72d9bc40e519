use Rattle.wf_turns.proofs.BackLemmas.{recalls}
use Rattle.wf_turns.proofs.rows_recall_what_was_decided.Goals as goal

pub returns : goal.returns
returns c = recalls
