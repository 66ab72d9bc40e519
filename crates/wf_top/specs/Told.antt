-- What may be said of the runs that inputs start, and of a resubmission.
use Rattle.std.specs.Prelude.{◌≡◌, ◌⊎◌, ℕ, Bool, List, Err, codes}
use Rattle.wf_answers.specs.Inputs.{InputsTree}
use Rattle.wf_def.specs.DefTree.{DefTree}
use Rattle.wf_record.specs.Record.{RecordTree}
use Rattle.wf_told.specs.Records.{runs_records}
use Rattle.wf_told.specs.Resubmissions.{IsNotResubmitted, TellsResubmission}
use Rattle.wf_told.specs.Runs.{TellsRuns}
use Rattle.wf_told.specs.declared.fault.ResubmissionFault.{ResubmissionFault}
use Rattle.wf_told.specs.declared.fault.RunsFault.{RunsFault}
use Rattle.wf_top.specs.Refusal.{refusal_line}
use Rattle.wf_top.specs.Trigger.{trigger_line}
use Rattle.wf_top.specs.declared.said.Verdict.{Verdict}
use Rattle.wf_top.specs.declared.said.Verdict.TheVariants.{Done, History, Inputs, TooLarge}

abbrev pub too_large : List ℕ
too_large = codes "too large\n"

-- Why no runs are told is said so: with this verdict, in this line.
abbrev pub SaysFault : RunsFault → Verdict → List ℕ → Type 0
SaysFault (RunsFault.Trigger fault) verdict text = (verdict ≡ Inputs) × (text ≡ trigger_line fault)
SaysFault RunsFault.TooLarge verdict text = (verdict ≡ TooLarge) × (text ≡ too_large)
-- This is never met: that memory ran out isn't what runs come to (`runs_want_no_memory` of wf_printed).
SaysFault RunsFault.Memory verdict text = ⊥

-- The runs are told, each under the schedule, with the events of each or without.
abbrev pub SaysRuns : Bool → DefTree → InputsTree → List ℕ → Verdict → List ℕ → Type 0
SaysRuns traced d inputs schedule verdict text = (verdict ≡ Done) × TellsRuns d inputs schedule traced text

-- There are none to tell for their fault, which rests on no schedule.
abbrev pub SaysNoRuns : DefTree → InputsTree → Verdict → List ℕ → Type 0
SaysNoRuns d inputs verdict text = (fault : RunsFault) × (runs_records d inputs ≡ Err fault) × SaysFault fault verdict text

-- what is said of the runs: their text, or why there is none
abbrev pub MayTell : Bool → DefTree → InputsTree → List ℕ → Verdict → List ℕ → Type 0
MayTell traced d inputs schedule verdict text = SaysRuns traced d inputs schedule verdict text ⊎ SaysNoRuns d inputs verdict text

-- Why there is no resubmission is said so: with this verdict, in this line.
abbrev pub SaysRefusal : ResubmissionFault → Verdict → List ℕ → Type 0
SaysRefusal (ResubmissionFault.Refused fault) verdict text = (verdict ≡ History) × (text ≡ refusal_line fault)
SaysRefusal ResubmissionFault.TooLarge verdict text = (verdict ≡ TooLarge) × (text ≡ too_large)
-- This is never met: that memory ran out is no reason (`a_resubmission_wants_no_memory` of wf_told).
SaysRefusal ResubmissionFault.Memory verdict text = ⊥

module _ (d : DefTree) (r : RecordTree) (names : List (List ℕ)) (inputs : InputsTree) where
  -- The resubmission of the record from the actions of these names is told, under the schedule.
  abbrev pub SaysAgain : List ℕ → Verdict → List ℕ → Type 0
  SaysAgain schedule verdict text = (verdict ≡ Done) × TellsResubmission d r names inputs schedule text

  -- There is none, for a reason that rests on no schedule.
  abbrev pub SaysNotAgain : Verdict → List ℕ → Type 0
  SaysNotAgain verdict text = (fault : ResubmissionFault) × IsNotResubmitted d r names inputs fault × SaysRefusal fault verdict text

  -- what is said of a resubmission: its text, or why there is none
  abbrev pub MayTellAgain : List ℕ → Verdict → List ℕ → Type 0
  MayTellAgain schedule verdict text = SaysAgain schedule verdict text ⊎ SaysNotAgain verdict text
