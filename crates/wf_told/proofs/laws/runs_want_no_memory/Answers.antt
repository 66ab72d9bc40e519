use Rattle.wf_told.proofs.RunLemmas.{never_memory}
use Rattle.wf_told.proofs.laws.runs_want_no_memory.Goals as goal

pub returns : goal.returns
returns c = never_memory
