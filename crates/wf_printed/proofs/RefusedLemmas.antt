-- A fault of a record that can't be resubmitted, as a fault of its resubmission.
use Rattle.std.proofs.Common.{◌≡◌, ◌≢◌, List, ℕ, refl, subst}
use Rattle.wf_answers.specs.Inputs.{InputsTree}
use Rattle.wf_def.specs.DefTree.{DefTree}
use Rattle.wf_told.specs.Prepared.{IsRefused}
use Rattle.wf_record.specs.Record.{RecordTree}
use Rattle.wf_resubmit.specs.declared.fault.ResubmitFault.{ResubmitFault}
use Rattle.wf_told.specs.Resubmissions.{IsNotResubmitted, refused}
use Rattle.wf_told.specs.Seen.{refused_fault}
use Rattle.wf_told.specs.declared.fault.ResubmissionFault.{ResubmissionFault}

abbrev IsTold : ResubmitFault → Type 0
IsTold ResubmitFault.Memory = ⊥
IsTold fault = Unit {0}

told_apart : (f : ResubmitFault) → IsTold f → f ≢ ResubmitFault.Memory
told_apart f told is = subst IsTold is told

pub refused_told : (d : DefTree) (r : RecordTree) (names : List (List ℕ)) (i : InputsTree) (f : ResubmitFault)
    → (f ≢ ResubmitFault.Memory → IsRefused d r names f) → refused_fault f ≢ ResubmissionFault.Memory
    → IsNotResubmitted d r names i (refused_fault f)
refused_told d r names i ResubmitFault.Memory is other = absurd (other refl)
refused_told d r names i (ResubmitFault.NoAction k) is other =
    refused (is (told_apart (ResubmitFault.NoAction k) tt))
refused_told d r names i (ResubmitFault.InLoop k l) is other =
    refused (is (told_apart (ResubmitFault.InLoop k l) tt))
refused_told d r names i (ResubmitFault.NotRun k) is other =
    refused (is (told_apart (ResubmitFault.NotRun k) tt))
refused_told d r names i (ResubmitFault.OtherDefinition k g) is other =
    refused (is (told_apart (ResubmitFault.OtherDefinition k g) tt))
refused_told d r names i (ResubmitFault.Shape a) is other =
    refused (is (told_apart (ResubmitFault.Shape a) tt))
