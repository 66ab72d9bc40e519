-- How a command ends that resubmits a run, in terms of what its files hold.
use Rattle.std.specs.Prelude.{◌≡◌, ◌⊎◌, ℕ, ◌≤◌, List, true, Option, Result, Ok, Err, codes}
use Rattle.std.specs.Io.KnownBytes.{Appends}
use Rattle.wf_answers.specs.Inputs.{InputsTree}
use Rattle.wf_def.specs.DefTree.{DefTree}
use Rattle.wf_files.specs.Fault.{fault_line}
use Rattle.wf_files.specs.Form.{history_form, inputs_form}
use Rattle.wf_files.specs.declared.fault.FindFault.{FindFault}
use Rattle.wf_files.specs.declared.fault.FormFault.{FormFault}
use Rattle.wf_stands.specs.Resubmitted.{pinned}
use Rattle.wf_outside.specs.Outside.{Held}
use Rattle.wf_told.specs.Prepared.{MayBeResubmitted}
use Rattle.wf_record.specs.Cost.{cost}
use Rattle.wf_record.specs.Record.{RecordTree}
use Rattle.wf_resubmit.specs.Refused.{numbers_of}
use Rattle.wf_resubmit.specs.declared.fault.ResubmitFault.{ResubmitFault}
use Rattle.wf_told.specs.Resubmissions.{IsNotResubmitted, TellsResubmission}
use Rattle.wf_told.specs.declared.fault.ResubmissionFault.{ResubmissionFault}
use Rattle.wf_top.specs.Limits.{history_bytes, inputs_bytes}
use Rattle.wf_top.specs.Ran.{Gives, GivesDefinition, GivesNumbers, Holds, HoldsDefinition, HoldsSchedule}
use Rattle.wf_top.specs.Refusal.{find_line, refusal_line}
use Rattle.wf_top.specs.Served.{out_of_memory}
use Rattle.wf_top.specs.Told.{too_large}
use Rattle.wf_top.specs.Words.{AskedTree, asked_of, resubmits}
use Rattle.wf_top.specs.declared.words.Command.{Command}

-- what HISTORY gave of the run: what is found of it, or the fault of the file
abbrev pub GivesLog : Held → AskedTree → Result (Result RecordTree FindFault) FormFault → Type 0
GivesLog held asked found = Gives held asked.history history_bytes (history_form asked.run) found

-- what INPUTS gave
abbrev pub GivesAnswers : Held → AskedTree → Result InputsTree FormFault → Type 0
GivesAnswers held asked found = Gives held asked.inputs inputs_bytes inputs_form found

-- what SCHEDULE gave: a schedule that isn't named is the empty one
abbrev pub GivesTimes : Held → AskedTree → Result (List ℕ) FormFault → Type 0
GivesTimes held asked found = GivesNumbers held asked.schedule found

-- The words are `resubmit` or `resubmit-set`, DEF gave an accepted definition, and HISTORY a history, in which this is found of the run.
pub record HasLog (held : Held) (words : List (List ℕ)) (command : Command) (d : DefTree) (found : Result RecordTree FindFault)
    : Type 0 where
  pub again : resubmits command ≡ true
  pub definition_given : GivesDefinition held words command (Ok d)
  pub log_given : GivesLog held (asked_of command words) (Ok found)

-- And INPUTS gave inputs,
pub record HasAnswers (held : Held) (words : List (List ℕ)) (command : Command) (d : DefTree) (found : Result RecordTree FindFault)
    (inputs : InputsTree) : Type 0 where
  pub log : HasLog held words command d found
  pub answers_given : GivesAnswers held (asked_of command words) (Ok inputs)

-- and SCHEDULE a schedule.
pub record HasTimes (held : Held) (words : List (List ℕ)) (command : Command) (d : DefTree) (found : Result RecordTree FindFault)
    (inputs : InputsTree) (schedule : List ℕ) : Type 0 where
  pub answers : HasAnswers held words command d found inputs
  pub times_given : GivesTimes held (asked_of command words) (Ok schedule)

-- ---- the ends

module _ (held : Held) (words : List (List ℕ)) where
  -- The record of the run was resubmitted from the actions that the words name: a text that is told of that was taken, and nothing else.
  pub record Resubmitted (command : Command) (before after : Option (List ℕ)) : Type 0 where
    pub definition : DefTree
    pub log : RecordTree
    pub inputs : InputsTree
    pub schedule : List ℕ
    pub text : List ℕ
    pub given : HasTimes held words command definition (Ok log) inputs schedule
    pub made : TellsResubmission definition log (asked_of command words).names inputs schedule text
    pub written : Appends before after text

  -- HISTORY gave no history, and its fault was taken.
  pub record RefusedLog (before after : Option (List ℕ)) : Type 0 where
    pub command : Command
    pub definition : DefTree
    pub fault : FormFault
    pub again : resubmits command ≡ true
    pub definition_given : GivesDefinition held words command (Ok definition)
    pub log_given : GivesLog held (asked_of command words) (Err fault)
    pub written : Appends before after (fault_line (codes "history ") fault)

  -- HISTORY gave a history and INPUTS no inputs, and the fault of INPUTS was taken.
  pub record RefusedAnswers (before after : Option (List ℕ)) : Type 0 where
    pub command : Command
    pub definition : DefTree
    pub found : Result RecordTree FindFault
    pub fault : FormFault
    pub log : HasLog held words command definition found
    pub answers_given : GivesAnswers held (asked_of command words) (Err fault)
    pub written : Appends before after (fault_line (codes "inputs ") fault)

  -- INPUTS gave inputs and SCHEDULE no schedule, and the fault of SCHEDULE was taken.
  pub record RefusedTimes (before after : Option (List ℕ)) : Type 0 where
    pub command : Command
    pub definition : DefTree
    pub found : Result RecordTree FindFault
    pub inputs : InputsTree
    pub fault : FormFault
    pub answers : HasAnswers held words command definition found inputs
    pub times_given : GivesTimes held (asked_of command words) (Err fault)
    pub written : Appends before after (fault_line (codes "schedule ") fault)

  -- All files gave what they should, and the history has no record of the run, or more than one, and that was said.
  pub record RefusedRun (before after : Option (List ℕ)) : Type 0 where
    pub command : Command
    pub definition : DefTree
    pub fault : FindFault
    pub inputs : InputsTree
    pub schedule : List ℕ
    pub given : HasTimes held words command definition (Err fault) inputs schedule
    pub written : Appends before after (find_line fault)

  -- The history has one, and it isn't resubmitted for this reason; and this line was taken.
  pub record RefusedAgain (before after : Option (List ℕ)) (fault : ResubmissionFault) (line : List ℕ) : Type 0 where
    pub command : Command
    pub definition : DefTree
    pub log : RecordTree
    pub inputs : InputsTree
    pub schedule : List ℕ
    pub given : HasTimes held words command definition (Ok log) inputs schedule
    pub not_made : IsNotResubmitted definition log (asked_of command words).names inputs fault
    pub written : Appends before after line

  -- It can't be resubmitted from the actions that the words name.
  abbrev pub RefusedNames : Option (List ℕ) → Option (List ℕ) → Type 0
  RefusedNames before after =
      (fault : ResubmitFault) × RefusedAgain before after (ResubmissionFault.Refused fault) (refusal_line fault)

  -- The new record would cost too much.
  abbrev pub RefusedNewCost : Option (List ℕ) → Option (List ℕ) → Type 0
  RefusedNewCost before after = RefusedAgain before after ResubmissionFault.TooLarge too_large

-- ---- what is owed where all tests pass

-- All tests of `resubmit` or `resubmit-set` pass: the words are that, the files hold a definition, one record of the run, inputs and a
-- schedule, the record may be resubmitted from the actions that the words name, and the new record doesn't cost too much.
pub record PassesAgain (bytes_of : List ℕ → Option (List ℕ)) (words : List (List ℕ)) (command : Command) (d : DefTree) (log : RecordTree)
    (inputs : InputsTree) (schedule : List ℕ) : Type 0 where
  pub again : resubmits command ≡ true
  pub definition_held : HoldsDefinition bytes_of words command d
  pub log_held : Holds bytes_of (asked_of command words).history history_bytes (history_form (asked_of command words).run) (Ok log)
  pub inputs_held : Holds bytes_of (asked_of command words).inputs inputs_bytes inputs_form inputs
  pub schedule_held : HoldsSchedule bytes_of (asked_of command words).schedule schedule
  pub may : MayBeResubmitted d log (asked_of command words).names
  pub small : cost (pinned d log inputs (numbers_of d.top (asked_of command words).names)) ≤ 67108864

-- A text that is told of the resubmission was taken as a whole, with its status; or memory ran out.
abbrev pub IsToldAgain : DefTree → RecordTree → List (List ℕ) → InputsTree → List ℕ → Option (List ℕ) → Option (List ℕ) → ℕ → Type 0
IsToldAgain d log names inputs schedule before after result =
    ((text : List ℕ) × (result ≡ 0) × TellsResubmission d log names inputs schedule text × Appends before after text)
    ⊎ ((result ≡ 5) × Appends before after out_of_memory)
