-- What is told of a resubmission, or why there is none, by what the calls are given.
use Rattle.std.specs.Prelude.{ℕ, List}
use Rattle.wf_answers.specs.InputsSeen.{inputs_tree}
use Rattle.wf_answers.specs.declared.inputs.Inputs.{Inputs}
use Rattle.wf_reading.specs.ReadSeen.{def_tree}
use Rattle.wf_record.specs.Seen.{record_tree}
use Rattle.wf_record.specs.declared.record.Record.{Record}
use Rattle.wf_run.specs.Checked.{Checked}
use Rattle.wf_told.specs.Resubmissions.{IsNotResubmitted, TellsResubmission}
use Rattle.wf_told.specs.declared.fault.ResubmissionFault.{ResubmissionFault}

abbrev pub IsTold : Checked → Record → List (List ℕ) → Inputs → List ℕ → List ℕ → Type 0
IsTold checked log names inputs schedule text =
    TellsResubmission (def_tree checked.def) (record_tree log) names (inputs_tree inputs) schedule text

abbrev pub IsNotTold : Checked → Record → List (List ℕ) → Inputs → ResubmissionFault → Type 0
IsNotTold checked log names inputs f = IsNotResubmitted (def_tree checked.def) (record_tree log) names (inputs_tree inputs) f
