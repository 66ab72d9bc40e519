use Rattle.wf_told.proofs.RunLemmas.{fault_told}
use Rattle.wf_told.proofs.laws.a_fault_of_the_trigger_is_told.Goals as goal

pub returns : goal.returns
returns c = fault_told
