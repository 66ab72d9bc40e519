-- Worked values of what a file holds, and of the lines of faults.
use Rattle.std.proofs.Common.{◌≡◌, ℕ, List, [], ◌∷◌, ◌++◌, None, Some, Ok, Err, refl}
use Rattle.std.specs.Prelude.{codes}
use Rattle.std.specs.Fmt.{digits}
use Rattle.wf_def.specs.DefTree.{DefTree}
use Rattle.wf_history.specs.History as history
use Rattle.wf_history.specs.History.{ListedTree}
use Rattle.wf_json.specs.Json.{string}
use Rattle.wf_reading.specs.declared.definition.RuleFault.{RuleFault}
use Rattle.wf_record.specs.Worked.{empty, finished}
use Rattle.wf_record.specs.declared.status.RunStatus.{RunStatus}
use Rattle.wf_files.specs.Fault.{fault_line, form_words}
use Rattle.wf_files.specs.Form.{checked, definition_form, history_form, inputs_form, listing_form, or_find_fault, or_line_fault}
use Rattle.wf_files.specs.Form.{schedule_form}
use Rattle.wf_files.specs.declared.fault.FindFault.{FindFault}
use Rattle.wf_files.specs.declared.fault.FormFault.{FormFault}

-- ---- definitions, inputs and schedules

too_long-definition : definition_form None ≡ Err FormFault.TooLong
too_long-definition = refl

too_long-inputs : inputs_form None ≡ Err FormFault.TooLong
too_long-inputs = refl

too_long-schedule : schedule_form None ≡ Err FormFault.TooLong
too_long-schedule = refl

-- a rule between parts is told, and a definition that breaks none is taken
rule-broken : (d : DefTree) (pointer : List ℕ) → checked d (Some (RuleFault.Rule 9 pointer)) ≡ Err (FormFault.Rule 9 pointer)
rule-broken d pointer = refl

rules-kept : (d : DefTree) → checked d None ≡ Ok d
rules-kept d = refl

schedule-no_bytes : schedule_form (Some []) ≡ Ok []
schedule-no_bytes = refl

schedule-two : schedule_form (Some (codes "0\n12\n")) ≡ Ok (0 ∷ 12 ∷ [])
schedule-two = refl

schedule-letter : schedule_form (Some (codes "0\nx\n")) ≡ Err (FormFault.Line 2)
schedule-letter = refl

-- ---- what a history lists

too_long-history : listing_form None ≡ Err FormFault.TooLong
too_long-history = refl

-- a file of no bytes has no records, and neither has one of silent lines
no_bytes-history : listing_form (Some []) ≡ Ok []
no_bytes-history = refl

silent-history : listing_form (Some (codes "\n# kept since May\n\r\n#")) ≡ Ok []
silent-history = refl

abbrev succeeded : ListedTree
succeeded = record { run = codes "r"; status = RunStatus.Succeeded; rows = 0 }

records-listed : or_line_fault (Ok ((1, empty) ∷ (3, finished) ∷ []))
    ≡ Ok (succeeded ∷ record { run = codes "r-1"; status = RunStatus.Failed; rows = 4 } ∷ [])
records-listed = refl

line-told : or_line_fault (Err 7) ≡ Err (FormFault.Line 7)
line-told = refl

-- ---- what is found of a run

too_long-run : history_form (codes "r") None ≡ Err FormFault.TooLong
too_long-run = refl

-- where no line says anything, no record is of the run
no_bytes-run : history_form (codes "r") (Some []) ≡ Ok (Err FindFault.NoRun)
no_bytes-run = refl

silent-run : history_form (codes "r") (Some (codes "\n# kept since May\n\r\n#")) ≡ Ok (Err FindFault.NoRun)
silent-run = refl

-- a line that is no record is a fault of the file, whatever the run
no_record-run : or_find_fault (history.if_records (codes "r") (Err 2)) ≡ Err (FormFault.Line 2)
no_record-run = refl

-- by the records on the lines
one-run : or_find_fault (history.if_records (codes "r") (Ok ((1, empty) ∷ (3, finished) ∷ []))) ≡ Ok (Ok empty)
one-run = refl

other-run : or_find_fault (history.if_records (codes "r-1") (Ok ((1, empty) ∷ (3, finished) ∷ []))) ≡ Ok (Ok finished)
other-run = refl

no_run : or_find_fault (history.if_records (codes "x") (Ok ((1, empty) ∷ (3, finished) ∷ []))) ≡ Ok (Err FindFault.NoRun)
no_run = refl

-- of three the first two lines are told
twice-run : or_find_fault (history.if_records (codes "r") (Ok ((1, empty) ∷ (3, finished) ∷ (4, empty) ∷ (6, empty) ∷ [])))
    ≡ Ok (Err (FindFault.Twice 1 4))
twice-run = refl

-- ---- the words of faults, and their lines

words-too_long : form_words FormFault.TooLong ≡ codes "too long"
words-too_long = refl

words-not_json : form_words FormFault.NotJson ≡ codes "NotJson"
words-not_json = refl

words-not_whole : (pointer : List ℕ) → form_words (FormFault.NotWhole pointer) ≡ codes "NotWhole " ++ string pointer
words-not_whole pointer = refl

words-too_deep : (pointer : List ℕ) → form_words (FormFault.TooDeep pointer) ≡ codes "TooDeep " ++ string pointer
words-too_deep pointer = refl

words-rule : (pointer : List ℕ) → form_words (FormFault.Rule 8 pointer) ≡ codes "V8 " ++ string pointer
unfolding digits
words-rule pointer = refl

words-last_rule : (pointer : List ℕ) → form_words (FormFault.Rule 21 pointer) ≡ codes "V21 " ++ string pointer
unfolding digits
words-last_rule pointer = refl

words-form : (pointer : List ℕ) → form_words (FormFault.Form pointer) ≡ codes "Form " ++ string pointer
words-form pointer = refl

words-twice : (address : List ℕ) → form_words (FormFault.Twice address 12) ≡ codes "Twice " ++ (string address ++ codes " 12")
unfolding digits
words-twice address = refl

words-moment : form_words FormFault.Moment ≡ codes "Moment"
words-moment = refl

words-line : form_words (FormFault.Line 4294967296) ≡ codes "Line 4294967296"
unfolding digits
words-line = refl

line-definition : fault_line (codes "definition ") FormFault.NotJson ≡ codes "definition NotJson\n"
unfolding fault_line
line-definition = refl

line-inputs : fault_line (codes "inputs ") FormFault.Moment ≡ codes "inputs Moment\n"
unfolding fault_line
line-inputs = refl

line-schedule : fault_line (codes "schedule ") FormFault.TooLong ≡ codes "schedule too long\n"
unfolding fault_line
line-schedule = refl

line-history : fault_line (codes "history ") (FormFault.Line 2) ≡ codes "history Line 2\n"
unfolding fault_line digits
line-history = refl
