use Rattle.wf_told.proofs.RunLemmas.{no_run}
use Rattle.wf_told.proofs.laws.no_run_is_said_where_none_starts.Goals as goal

pub returns : goal.returns
returns c = no_run
