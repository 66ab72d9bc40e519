use Rattle.wf_prepare.proofs.RefusedLemmas.{no_fault, one_fault}
use Rattle.wf_prepare.proofs.laws.one_fault_is_told.Goals as goal

pub returns-clause-one : goal.returns-clause-one
returns-clause-one c = one_fault

pub returns-clause-none : goal.returns-clause-none
returns-clause-none c = no_fault
