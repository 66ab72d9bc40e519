use Rattle.wf_told.proofs.ResubmissionLemmas.{never_memory}
use Rattle.wf_told.proofs.laws.a_resubmission_wants_no_memory.Goals as goal

pub returns : goal.returns
returns c = never_memory
