-- What each command says: its plan, in the order of its tests.
use Rattle.std.specs.Prelude.{ℕ, List, [], ◌∷◌, ◌++◌, length, flat_map, Bool, Option, None, Some, Result, Ok, Err, codes, decimal}
use Rattle.std.specs.Option.{option_map}
use Rattle.wf_answers.specs.Inputs.{InputsTree}
use Rattle.wf_def.specs.DefTree.{DefTree}
use Rattle.wf_def.specs.Names.{graph_names}
use Rattle.wf_history.specs.History.{ListedTree}
use Rattle.wf_recur.specs.Moments.{moments_due}
use Rattle.wf_recur.specs.Reading.{recurrence_of}
use Rattle.wf_recur.specs.declared.fault.RecurrenceFault.{RecurrenceFault}
use Rattle.wf_recur.specs.declared.recurrence.Recurrence.{Recurrence}
use Rattle.wf_val.specs.ValueTree.{ValueTree}
use Rattle.wf_files.specs.Fault.{fault_line}
use Rattle.wf_record.specs.Record.{run_status_name}
use Rattle.wf_top.specs.Drill.{drilled}
use Rattle.wf_top.specs.Fires.{moments_text, recurrence_line, recurrence_words, trigger_in}
use Rattle.wf_files.specs.Form.{definition_form, inputs_form, listing_form, schedule_form, value_form}
use Rattle.wf_top.specs.Limits.{definition_bytes, history_bytes, inputs_bytes, schedule_bytes}
use Rattle.wf_top.specs.Plan.{Plan, Says, Reads, Makes}
use Rattle.wf_top.specs.Resubmit.{resubmit}
use Rattle.wf_top.specs.Session.{session}
use Rattle.wf_top.specs.Words.{command_of, is_traced, one_asked, schedule_word, set_asked, word}
use Rattle.wf_files.specs.declared.fault.FormFault.{FormFault}
use Rattle.wf_top.specs.declared.said.Verdict.TheVariants.{Done, Definition, History, Inputs}
use Rattle.wf_top.specs.declared.words.Command.{Command}
use Rattle.wf_top.specs.declared.words.Command.TheVariants.{Check, Run, Trace, Resubmit, ResubmitSet, Drill, Fires, Session}

-- what `check` writes of an accepted definition: how many actions it has, at any depth
unfoldable pub accepted_line : DefTree → List ℕ
accepted_line d = codes "accepted " ++ (decimal (length (graph_names d.top)) ++ 10 ∷ [])

-- SCHEDULE is read and judged: the runs are made, or refused for the fault of the schedule.
abbrev pub judged_schedule : Bool → DefTree → InputsTree → Result (List ℕ) FormFault → Plan
judged_schedule traced d inputs (Err fault) = Says Inputs (fault_line (codes "schedule ") fault)
judged_schedule traced d inputs (Ok schedule) = Makes traced d inputs schedule

-- The runs are made under the schedule of a file, or under the empty one where no file is named.
abbrev pub scheduled : Bool → Option (List ℕ) → DefTree → InputsTree → Plan
scheduled traced None d inputs = Makes traced d inputs []
scheduled traced (Some schedule) d inputs = Reads schedule schedule_bytes (λ file. judged_schedule traced d inputs (schedule_form file))

-- INPUTS is read and judged: the runs are made, or refused for the fault of the inputs.
abbrev pub judged_inputs : Bool → Option (List ℕ) → DefTree → Result InputsTree FormFault → Plan
judged_inputs traced schedule d (Err fault) = Says Inputs (fault_line (codes "inputs ") fault)
judged_inputs traced schedule d (Ok inputs) = scheduled traced schedule d inputs

-- An accepted definition is run with the inputs of a file.
abbrev pub run : Bool → List ℕ → Option (List ℕ) → DefTree → Plan
run traced inputs schedule d = Reads inputs inputs_bytes (λ file. judged_inputs traced schedule d (inputs_form file))

-- what a command does with an accepted definition
abbrev pub accepted : Command → List (List ℕ) → DefTree → Plan
accepted Check words d = Says Done (accepted_line d)
accepted Run words d = run (is_traced Run) (word words 2) (schedule_word words) d
accepted Trace words d = run (is_traced Trace) (word words 2) (schedule_word words) d
accepted Resubmit words d = resubmit (one_asked words) d
accepted ResubmitSet words d = resubmit (set_asked words) d
-- These are never met: `list` and `drill` read no definition, and `fires` and `session` have plans of their own.
accepted Command.List words d = Says Done (accepted_line d)
accepted (Fires from count) words d = Says Done (accepted_line d)
accepted (Drill n) words d = Says Done (accepted_line d)
accepted Session words d = Says Done (accepted_line d)

-- DEF is read and judged: the command goes on with it, or it is refused for its fault.
abbrev pub judged_definition : Command → List (List ℕ) → Result DefTree FormFault → Plan
judged_definition command words (Err fault) = Says Definition (fault_line (codes "definition ") fault)
judged_definition command words (Ok d) = accepted command words d

-- what a command says whose definition is the file of this name
abbrev pub defined : List ℕ → Command → List (List ℕ) → Plan
defined definition command words =
    Reads definition definition_bytes (λ file. judged_definition command words (definition_form file))

-- what `list` writes of a record: its run, how that ended, and how many rows it has
abbrev pub listed_line : ListedTree → List ℕ
listed_line l = codes "run " ++ l.run ++ 32 ∷ run_status_name l.status ++ codes " rows " ++ decimal l.rows ++ 10 ∷ []

-- a line for each record, in their order
unfoldable pub listing_text : List ListedTree → List ℕ
listing_text listing = flat_map listed_line listing

-- HISTORY is read and judged: its records are listed, or it is refused for its fault.
abbrev pub judged_history : Result (List ListedTree) FormFault → Plan
judged_history (Err fault) = Says History (fault_line (codes "history ") fault)
judged_history (Ok listing) = Says Done (listing_text listing)

-- what `list` says of the history that is the file of this name
abbrev pub list : List ℕ → Plan
list history = Reads history history_bytes (λ file. judged_history (listing_form file))

-- the next moments of a recurrence, or why the trigger has none that can be told
abbrev pub recurs : ℕ → ℕ → Result Recurrence RecurrenceFault → Plan
recurs from count (Ok r) = Says Done (moments_text (moments_due r from count))
recurs from count (Err fault) = Says Inputs (recurrence_line (recurrence_words fault))

-- of the trigger, if the definition has it
abbrev pub triggered : ℕ → ℕ → Option ValueTree → Plan
triggered from count (Some trigger) = recurs from count (recurrence_of trigger)
triggered from count None = Says Inputs (recurrence_line (codes "NoTrigger"))

-- DEF is read and judged: the trigger of a name is sought in it, or it is refused for its fault.
abbrev pub judged_value : List ℕ → ℕ → ℕ → Result ValueTree FormFault → Plan
judged_value name from count (Ok file) = triggered from count (trigger_in name file)
judged_value name from count (Err fault) = Says Definition (fault_line (codes "definition ") fault)

-- what `fires` says
abbrev pub fired : List ℕ → List ℕ → ℕ → ℕ → Plan
fired definition name from count =
    Reads definition definition_bytes (λ file. judged_value name from count (value_form file))

-- what a command with its words says
unfoldable pub plan : Command → List (List ℕ) → Plan
plan Check words = defined (word words 1) Check words
plan Run words = defined (word words 1) Run words
plan Trace words = defined (word words 1) Trace words
plan Resubmit words = defined (word words 1) Resubmit words
plan ResubmitSet words = defined (word words 1) ResubmitSet words
plan (Fires from count) words = fired (word words 1) (word words 2) from count
plan (Drill n) words = drilled n
plan Session words = session (word words 1) (word words 2)
plan Command.List words = list (word words 1)

-- what the words ask for, or None where they are no command
abbrev pub plan_of : List (List ℕ) → Option Plan
plan_of words = option_map (λ command. plan command words) (command_of words)
