-- How a command ends, in terms of what its files hold.
use Rattle.std.specs.Prelude.{◌≡◌, ◌⊎◌, ℕ, Bool, List, [], true, Option, None, Some, Result, Ok, Err, codes}
use Rattle.std.specs.Io.KnownBytes.{Appends}
use Rattle.wf_answers.specs.Inputs.{InputsTree}
use Rattle.wf_def.specs.DefTree.{DefTree}
use Rattle.wf_history.specs.History.{ListedTree}
use Rattle.wf_outside.specs.Outside.{Held}
use Rattle.wf_top.specs.Commands.{accepted_line, listing_text}
use Rattle.wf_files.specs.Fault.{fault_line}
use Rattle.wf_recur.specs.Next.{AreNext}
use Rattle.wf_recur.specs.Reading.{recurrence_of}
use Rattle.wf_recur.specs.declared.fault.RecurrenceFault.{RecurrenceFault}
use Rattle.wf_recur.specs.declared.recurrence.Recurrence.{Recurrence}
use Rattle.wf_val.specs.ValueTree.{ValueTree}
use Rattle.wf_top.specs.Fires.{moments_text, recurrence_line, recurrence_words, trigger_in}
use Rattle.wf_files.specs.Form.{Form, definition_form, inputs_form, listing_form, schedule_form, value_form}
use Rattle.wf_top.specs.Limits.{definition_bytes, history_bytes, inputs_bytes, schedule_bytes}
use Rattle.wf_top.specs.Plan.{MayGive, within}
use Rattle.wf_top.specs.Served.{out_of_memory}
use Rattle.wf_top.specs.Told.{too_large}
use Rattle.wf_top.specs.Trigger.{trigger_line}
use Rattle.wf_top.specs.Words.{command_of, is_traced, makes_runs, schedule_word, word}
use Rattle.wf_files.specs.declared.fault.FormFault.{FormFault}
use Rattle.wf_told.specs.Records.{runs_records}
use Rattle.wf_told.specs.Runs.{TellsRuns}
use Rattle.wf_told.specs.declared.fault.RunsFault.{RunsFault}
use Rattle.wf_record.specs.Record.{RecordTree}
use Rattle.wf_top.specs.declared.words.Command.{Command}
use Rattle.wf_top.specs.declared.words.Command.TheVariants.{Check, Fires}
use Rattle.wf_trigger.specs.declared.fault.TriggerFault.{TriggerFault}

-- A read of this name may give a file in which this is found: where the files tell, it is what they hold.
abbrev pub Gives : {T : Type 0} → Held → List ℕ → ℕ → Form T → Result T FormFault → Type 0
Gives held name limit form found = (file : Option (List ℕ)) × MayGive held name limit file × (form file ≡ found)

-- what DEF gave to a command
abbrev pub GivesDefinition : Held → List (List ℕ) → Command → Result DefTree FormFault → Type 0
GivesDefinition held words command found =
    (command_of words ≡ Some command) × Gives held (word words 1) definition_bytes definition_form found

-- what INPUTS gave, the word behind DEFINITION
abbrev pub GivesInputs : Held → List (List ℕ) → Result InputsTree FormFault → Type 0
GivesInputs held words found = Gives held (word words 2) inputs_bytes inputs_form found

-- what SCHEDULE gave: a schedule that isn't named is the empty one
abbrev pub GivesNumbers : Held → Option (List ℕ) → Result (List ℕ) FormFault → Type 0
GivesNumbers held None found = found ≡ Ok []
GivesNumbers held (Some name) found = Gives held name schedule_bytes schedule_form found

abbrev pub GivesSchedule : Held → List (List ℕ) → Result (List ℕ) FormFault → Type 0
GivesSchedule held words found = GivesNumbers held (schedule_word words) found

-- what HISTORY gave to `list`
abbrev pub GivesHistory : Held → List (List ℕ) → Result (List ListedTree) FormFault → Type 0
GivesHistory held words found =
    (command_of words ≡ Some Command.List) × Gives held (word words 1) history_bytes listing_form found

-- DEF gave a definition that `check` accepts, and the line with the number of its actions was taken, and nothing else.
pub record Checked (held : Held) (words : List (List ℕ)) (before after : Option (List ℕ)) : Type 0 where
  pub definition : DefTree
  pub definition_given : GivesDefinition held words Check (Ok definition)
  pub written : Appends before after (accepted_line definition)

-- what DEF gave to `fires`: the value of an accepted definition
abbrev pub GivesValue : Held → List (List ℕ) → ℕ → ℕ → Result ValueTree FormFault → Type 0
GivesValue held words from count found =
    (command_of words ≡ Some (Fires from count)) × Gives held (word words 1) definition_bytes value_form found

-- DEF gave a definition that has the trigger, whose recurrence was read, and its next moments were taken, and nothing else.
pub record Fired (held : Held) (words : List (List ℕ)) (from count : ℕ) (before after : Option (List ℕ)) : Type 0 where
  pub file : ValueTree
  pub trigger : ValueTree
  pub recurrence : Recurrence
  pub moments : List ℕ
  pub value_given : GivesValue held words from count (Ok file)
  pub has_trigger : trigger_in (word words 2) file ≡ Some trigger
  pub recurs : recurrence_of trigger ≡ Ok recurrence
  pub next : AreNext recurrence from count moments
  pub written : Appends before after (moments_text moments)

-- DEF gave a definition without the trigger, and that was said.
pub record RefusedName (held : Held) (words : List (List ℕ)) (before after : Option (List ℕ)) : Type 0 where
  pub from : ℕ
  pub count : ℕ
  pub file : ValueTree
  pub value_given : GivesValue held words from count (Ok file)
  pub has_none : trigger_in (word words 2) file ≡ None
  pub written : Appends before after (recurrence_line (codes "NoTrigger"))

-- DEF gave a definition that has the trigger, which has no recurrence whose moments can be told, and why was said.
pub record RefusedRecurrence (held : Held) (words : List (List ℕ)) (before after : Option (List ℕ)) : Type 0 where
  pub from : ℕ
  pub count : ℕ
  pub file : ValueTree
  pub trigger : ValueTree
  pub fault : RecurrenceFault
  pub value_given : GivesValue held words from count (Ok file)
  pub has_trigger : trigger_in (word words 2) file ≡ Some trigger
  pub recurs_not : recurrence_of trigger ≡ Err fault
  pub written : Appends before after (recurrence_line (recurrence_words fault))

-- The words are `run` or `trace`, DEF gave an accepted definition, and INPUTS gave inputs.
pub record IsGiven (held : Held) (words : List (List ℕ)) (command : Command) (definition : DefTree) (inputs : InputsTree) : Type 0 where
  pub makes : makes_runs command ≡ true
  pub definition_given : GivesDefinition held words command (Ok definition)
  pub inputs_given : GivesInputs held words (Ok inputs)

-- The runs were made: DEF gave a definition, INPUTS inputs and SCHEDULE a schedule, and a text that is told of the runs that the inputs
-- start, each under the schedule, at `trace` with their events, was taken, and nothing else.
pub record Ran (held : Held) (words : List (List ℕ)) (command : Command) (before after : Option (List ℕ)) : Type 0 where
  pub definition : DefTree
  pub inputs : InputsTree
  pub schedule : List ℕ
  pub text : List ℕ
  pub given : IsGiven held words command definition inputs
  pub schedule_given : GivesSchedule held words (Ok schedule)
  pub runs_made : TellsRuns definition inputs schedule (is_traced command) text
  pub written : Appends before after text

-- DEF gave no accepted definition, and its fault was taken.
pub record RefusedDefinition (held : Held) (words : List (List ℕ)) (before after : Option (List ℕ)) : Type 0 where
  pub command : Command
  pub fault : FormFault
  pub definition_given : GivesDefinition held words command (Err fault)
  pub written : Appends before after (fault_line (codes "definition ") fault)

-- DEF gave a definition and INPUTS gave no inputs, and the fault of INPUTS was taken.
pub record RefusedInputs (held : Held) (words : List (List ℕ)) (before after : Option (List ℕ)) : Type 0 where
  pub command : Command
  pub definition : DefTree
  pub fault : FormFault
  pub makes : makes_runs command ≡ true
  pub definition_given : GivesDefinition held words command (Ok definition)
  pub inputs_given : GivesInputs held words (Err fault)
  pub written : Appends before after (fault_line (codes "inputs ") fault)

-- DEF gave a definition, INPUTS inputs and SCHEDULE no schedule, and the fault of SCHEDULE was taken.
pub record RefusedSchedule (held : Held) (words : List (List ℕ)) (before after : Option (List ℕ)) : Type 0 where
  pub command : Command
  pub definition : DefTree
  pub inputs : InputsTree
  pub fault : FormFault
  pub given : IsGiven held words command definition inputs
  pub schedule_given : GivesSchedule held words (Err fault)
  pub written : Appends before after (fault_line (codes "schedule ") fault)

-- DEF gave a definition, INPUTS inputs and SCHEDULE a schedule, there are no records of runs for this fault, and its line was taken.
pub record RefusedRuns (held : Held) (words : List (List ℕ)) (before after : Option (List ℕ)) (fault : RunsFault)
    (line : List ℕ) : Type 0 where
  pub command : Command
  pub definition : DefTree
  pub inputs : InputsTree
  pub schedule : List ℕ
  pub given : IsGiven held words command definition inputs
  pub schedule_given : GivesSchedule held words (Ok schedule)
  pub runs_refused : runs_records definition inputs ≡ Err fault
  pub written : Appends before after line

-- No run could start, for a fault of the trigger, and it was taken.
abbrev pub RefusedTrigger : Held → List (List ℕ) → Option (List ℕ) → Option (List ℕ) → Type 0
RefusedTrigger held words before after =
    (fault : TriggerFault) × RefusedRuns held words before after (RunsFault.Trigger fault) (trigger_line fault)

-- The runs cost too much, and the line that says so was taken.
abbrev pub RefusedCost : Held → List (List ℕ) → Option (List ℕ) → Option (List ℕ) → Type 0
RefusedCost held words before after = RefusedRuns held words before after RunsFault.TooLarge too_large

-- HISTORY gave records, and a line for each of them was taken, in their order, and nothing else.
pub record Listed (held : Held) (words : List (List ℕ)) (before after : Option (List ℕ)) : Type 0 where
  pub listing : List ListedTree
  pub history_given : GivesHistory held words (Ok listing)
  pub written : Appends before after (listing_text listing)

-- HISTORY gave no records, and its fault was taken.
pub record RefusedHistory (held : Held) (words : List (List ℕ)) (before after : Option (List ℕ)) : Type 0 where
  pub fault : FormFault
  pub history_given : GivesHistory held words (Err fault)
  pub written : Appends before after (fault_line (codes "history ") fault)

-- A file of this name is there, and this is found in it.
abbrev pub Holds : {T : Type 0} → (List ℕ → Option (List ℕ)) → List ℕ → ℕ → Form T → T → Type 0
Holds bytes_of name limit form t = (bytes : List ℕ) × (bytes_of name ≡ Some bytes) × (form (within limit bytes) ≡ Ok t)

-- The words are this command, and a file DEF is there and holds an accepted definition.
pub record HoldsDefinition (bytes_of : List ℕ → Option (List ℕ)) (words : List (List ℕ)) (command : Command) (d : DefTree) : Type 0 where
  pub names : command_of words ≡ Some command
  pub held : Holds bytes_of (word words 1) definition_bytes definition_form d

-- All tests of `fires` pass: a file DEF is there and holds a definition with the trigger, whose recurrence reads.
pub record PassesFires (bytes_of : List ℕ → Option (List ℕ)) (words : List (List ℕ)) (from count : ℕ) (r : Recurrence) : Type 0 where
  pub names : command_of words ≡ Some (Fires from count)
  pub file : ValueTree
  pub trigger : ValueTree
  pub held : Holds bytes_of (word words 1) definition_bytes value_form file
  pub has_trigger : trigger_in (word words 2) file ≡ Some trigger
  pub recurs : recurrence_of trigger ≡ Ok r

-- A file SCHEDULE is there and holds this schedule; or none is named, and it is the empty one.
abbrev pub HoldsSchedule : (List ℕ → Option (List ℕ)) → Option (List ℕ) → List ℕ → Type 0
HoldsSchedule bytes_of None schedule = schedule ≡ []
HoldsSchedule bytes_of (Some name) schedule = Holds bytes_of name schedule_bytes schedule_form schedule

-- The words are `list`, and a file HISTORY is there and holds records of which this is said.
pub record HoldsHistory (bytes_of : List ℕ → Option (List ℕ)) (words : List (List ℕ)) (listing : List ListedTree) : Type 0 where
  pub names : command_of words ≡ Some Command.List
  pub held : Holds bytes_of (word words 1) history_bytes listing_form listing

-- All tests of `run` or `trace` pass: the words are that, the files hold a definition, inputs and a schedule, and the runs leave records.
pub record PassesAll (bytes_of : List ℕ → Option (List ℕ)) (words : List (List ℕ)) (command : Command) (definition : DefTree)
    (inputs : InputsTree) (schedule : List ℕ) : Type 0 where
  pub records : List RecordTree
  pub makes : makes_runs command ≡ true
  pub definition_held : HoldsDefinition bytes_of words command definition
  pub inputs_held : Holds bytes_of (word words 2) inputs_bytes inputs_form inputs
  pub schedule_held : HoldsSchedule bytes_of (schedule_word words) schedule
  pub runs_made : runs_records definition inputs ≡ Ok records

-- The whole text was taken with its status; or memory ran out.
abbrev pub IsWhole : Option (List ℕ) → Option (List ℕ) → List ℕ → ℕ → Type 0
IsWhole before after text result = ((result ≡ 0) × Appends before after text) ⊎ ((result ≡ 5) × Appends before after out_of_memory)

-- A text that is told of the runs was taken as a whole, with its status; or memory ran out.
abbrev pub IsToldWhole : Bool → DefTree → InputsTree → List ℕ → Option (List ℕ) → Option (List ℕ) → ℕ → Type 0
IsToldWhole traced definition inputs schedule before after result =
    ((text : List ℕ) × (result ≡ 0) × TellsRuns definition inputs schedule traced text × Appends before after text)
    ⊎ ((result ≡ 5) × Appends before after out_of_memory)
