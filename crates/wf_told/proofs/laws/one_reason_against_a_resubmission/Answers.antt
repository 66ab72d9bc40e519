use Rattle.wf_told.proofs.ResubmissionLemmas.{no_fault, nothing_against, one_fault}
use Rattle.wf_told.proofs.laws.one_reason_against_a_resubmission.Goals as goal

pub returns-clause-one : goal.returns-clause-one
returns-clause-one c = λ d r names i.
    let law = c.one_fault_is_told.ensures in
    one_fault d r names i (law.one d r names) (law.none d r names)

pub returns-clause-none : goal.returns-clause-none
returns-clause-none c = λ d r names i.
    let law = c.one_fault_is_told.ensures in
    no_fault d r names i (law.one d r names) (law.none d r names)

pub returns-clause-nothing : goal.returns-clause-nothing
returns-clause-nothing c = λ d r names i.
    let law = c.one_fault_is_told.ensures in
    nothing_against d r names i (law.one d r names) (law.none d r names)
