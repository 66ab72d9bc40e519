use Rattle.std.proofs.Common.{refl}
use Rattle.wf_trace.proofs.laws.what_inputs_came_to_is_told.Goals as goal

pub returns-clause-makes : goal.returns-clause-makes
returns-clause-makes c = λ m. refl

pub returns-clause-faults : goal.returns-clause-faults
returns-clause-faults c = λ f. refl

pub returns-clause-mismatches : goal.returns-clause-mismatches
returns-clause-mismatches c = λ inputs pointer. refl

pub returns-clause-calls : goal.returns-clause-calls
returns-clause-calls c = λ inputs policy. refl
