-- What a file holds of a form.
use Rattle.std.specs.Prelude.{ℕ, List, Option, None, Some, Result, Ok, Err, map}
use Rattle.wf_answers.specs.Inputs as answers
use Rattle.wf_answers.specs.declared.fault.InputsFault.{InputsFault}
use Rattle.wf_def.specs.DefTree.{DefTree}
use Rattle.wf_history.specs.History as history
use Rattle.wf_history.specs.History.{Kept, ListedTree, listed, records_of}
use Rattle.wf_history.specs.declared.fault.HistoryFault.{HistoryFault}
use Rattle.wf_json.specs.Read.{read_value}
use Rattle.wf_json.specs.declared.fault.JsonFault.{JsonFault}
use Rattle.wf_reading.specs.Meant as read
use Rattle.wf_reading.specs.ReadSeen.{fault_in}
use Rattle.wf_reading.specs.declared.definition.RuleFault.{RuleFault}
use Rattle.wf_record.specs.Record.{RecordTree}
use Rattle.wf_rules.specs.Broken.{broken_of}
use Rattle.wf_schedule.specs.Schedule as schedules
use Rattle.wf_schedule.specs.declared.fault.ScheduleFault.{ScheduleFault}
use Rattle.wf_files.specs.Fault.{inputs_fault, json_fault, rule_fault, schedule_fault}
use Rattle.wf_files.specs.declared.fault.FindFault.{FindFault}
use Rattle.wf_files.specs.declared.fault.FormFault.{FormFault}
use Rattle.wf_val.specs.ValueTree.{ValueTree}

-- A form says what a file holds of it, or which fault the file has: None stands for a file over its limit.
abbrev pub Form : Type 0 → Type 0
Form T = Option (List ℕ) → Result T FormFault

-- what is found in the value that the bytes of a file are
abbrev pub found : {T : Type 0} → (ValueTree → Result T FormFault) → Result ValueTree JsonFault → Result T FormFault
found of_value (Ok value) = of_value value
found of_value (Err fault) = Err (json_fault fault)

-- the form of the files that are a JSON text, by what its value means
abbrev pub json_form : {T : Type 0} → (ValueTree → Result T FormFault) → Form T
json_form of_value None = Err FormFault.TooLong
json_form of_value (Some bytes) = found of_value (read_value bytes)

-- the first of the rules between its parts that a definition breaks
unfoldable pub broken_in : DefTree → Option RuleFault
broken_in d = broken_of d

-- a definition that breaks this rule between its parts, or none
abbrev pub checked : DefTree → Option RuleFault → Result DefTree FormFault
checked d (Some fault) = Err (rule_fault fault)
checked d None = Ok d

-- a value that breaks this rule on what stands where, or none
abbrev pub formed : ValueTree → Option RuleFault → Result DefTree FormFault
formed value (Some fault) = Err (rule_fault fault)
formed value None = checked (read.definition_of value) (broken_in (read.definition_of value))

-- the definition that a value means: it breaks no rule
abbrev pub definition_of : ValueTree → Result DefTree FormFault
definition_of value = formed value (fault_in value)

-- the form of definitions
abbrev pub definition_form : Form DefTree
definition_form file = json_form definition_of file

-- the value of an accepted definition
abbrev pub kept : ValueTree → Result DefTree FormFault → Result ValueTree FormFault
kept value (Ok d) = Ok value
kept value (Err fault) = Err fault

-- the form of definitions, of which the value is kept
abbrev pub value_form : Form ValueTree
value_form file = json_form (λ value. kept value (definition_of value)) file

-- what inputs are read, or their fault
abbrev pub or_inputs_fault : Result answers.InputsTree InputsFault → Result answers.InputsTree FormFault
or_inputs_fault (Ok inputs) = Ok inputs
or_inputs_fault (Err fault) = Err (inputs_fault fault)

-- the inputs that a value means
abbrev pub inputs_of : ValueTree → Result answers.InputsTree FormFault
inputs_of value = or_inputs_fault (answers.inputs_of value)

-- the form of inputs
abbrev pub inputs_form : Form answers.InputsTree
inputs_form file = json_form inputs_of file

-- what schedule is read, or its fault
abbrev pub or_schedule_fault : Result (List ℕ) ScheduleFault → Result (List ℕ) FormFault
or_schedule_fault (Ok schedule) = Ok schedule
or_schedule_fault (Err fault) = Err (schedule_fault fault)

-- the form of schedules
abbrev pub schedule_form : Form (List ℕ)
schedule_form None = Err FormFault.TooLong
schedule_form (Some bytes) = or_schedule_fault (schedules.schedule_of bytes)

-- what is said of the records on the lines of a history, or the first line that is none
abbrev pub or_line_fault : Result (List Kept) ℕ → Result (List ListedTree) FormFault
or_line_fault (Ok records) = Ok (map listed records)
or_line_fault (Err number) = Err (FormFault.Line number)

-- the form of histories, by what is said of each record
abbrev pub listing_form : Form (List ListedTree)
listing_form None = Err FormFault.TooLong
listing_form (Some bytes) = or_line_fault (records_of bytes)

-- The record of a run, or why there isn't one alone; or the first line that is no record, which is told before that.
abbrev pub or_find_fault : Result RecordTree HistoryFault → Result (Result RecordTree FindFault) FormFault
or_find_fault (Ok r) = Ok (Ok r)
or_find_fault (Err HistoryFault.NoRun) = Ok (Err FindFault.NoRun)
or_find_fault (Err (HistoryFault.Twice first second)) = Ok (Err (FindFault.Twice first second))
or_find_fault (Err (HistoryFault.Line number)) = Err (FormFault.Line number)
or_find_fault (Err HistoryFault.Memory) = Err FormFault.Memory

-- the form of histories, by what is found of a run
abbrev pub history_form : List ℕ → Form (Result RecordTree FindFault)
history_form run None = Err FormFault.TooLong
history_form run (Some bytes) = or_find_fault (history.find run bytes)
