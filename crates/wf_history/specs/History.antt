-- The records on the lines of a file, and what is asked of them.
use Rattle.std.specs.Prelude.{ℕ, suc, Bool, true, List, [], ◌∷◌, map, length, Result, Ok, Err, if◌then◌else◌, nat_eq, bytes_eq}
use Rattle.std.specs.List.{filter}
use Rattle.wf_json.specs.Read.{read_value}
use Rattle.wf_json.specs.declared.fault.JsonFault.{JsonFault}
use Rattle.wf_lines.specs.Lines.{lines_of, without_return}
use Rattle.wf_val.specs.ValueTree.{ValueTree}
use Rattle.wf_record_form.specs.OfVal.{of_val}
use Rattle.wf_record.specs.Record.{RecordTree}
use Rattle.wf_record_form.specs.declared.fault.RecordFault.{RecordFault}
use Rattle.wf_record.specs.declared.status.RunStatus.{RunStatus}
use Rattle.wf_history.specs.declared.fault.HistoryFault.{HistoryFault}

-- ---- lines

-- a line that is empty or begins with `#` says nothing
abbrev pub is_silent : List ℕ → Bool
is_silent [] = true
is_silent (b ∷ line) = nat_eq b 35

-- what is on a line: nothing, a record, or something else
pub data OnLine : Type 0 where
  silent : OnLine
  holds : RecordTree → OnLine
  bad : OnLine

abbrev pub if_record : Result RecordTree RecordFault → OnLine
if_record (Ok r) = holds r
if_record (Err f) = bad

abbrev pub if_value : Result ValueTree JsonFault → OnLine
if_value (Ok t) = if_record (of_val t)
if_value (Err e) = bad

abbrev pub on_line : List ℕ → OnLine
on_line line = if is_silent line then silent else if_value (read_value line)

-- ---- the records

-- a record, and the number of its line
abbrev pub Kept : Type 0
Kept = ℕ × RecordTree

-- what is on a line, before the records of those that follow; a line that is no record, or the first of those that follow
abbrev pub line_then : ℕ → OnLine → Result (List Kept) ℕ → Result (List Kept) ℕ
line_then k silent rest = rest
line_then k bad rest = Err k
line_then k (holds r) (Err j) = Err j
line_then k (holds r) (Ok rs) = Ok ((k, r) ∷ rs)

-- the records on lines that are counted from this one on, or the first line that is none
abbrev pub records_from : ℕ → List (List ℕ) → Result (List Kept) ℕ
records_from k [] = Ok []
records_from k (line ∷ lines) = line_then k (on_line (without_return line)) (records_from (suc k) lines)

abbrev pub records_of : List ℕ → Result (List Kept) ℕ
records_of bytes = records_from 1 (lines_of bytes)

-- ---- the record of a run

abbrev pub is_of : List ℕ → Kept → Bool
is_of run k = bytes_eq k.1.run run

-- the only record among these
abbrev pub only_one : List Kept → Result RecordTree HistoryFault
only_one [] = Err HistoryFault.NoRun
only_one (k ∷ []) = Ok k.1
only_one (k ∷ l ∷ ks) = Err (HistoryFault.Twice k.0 l.0)

abbrev pub if_records : List ℕ → Result (List Kept) ℕ → Result RecordTree HistoryFault
if_records run (Err k) = Err (HistoryFault.Line k)
if_records run (Ok ks) = only_one (filter (is_of run) ks)

-- the record of the run in a file
abbrev pub find : List ℕ → List ℕ → Result RecordTree HistoryFault
find run bytes = if_records run (records_of bytes)

-- ---- all records

-- what is said of a record
pub record ListedTree : Type 0 where
  pub run : List ℕ
  pub status : RunStatus
  pub rows : ℕ

abbrev pub listed : Kept → ListedTree
listed k = record { run = k.1.run; status = k.1.status; rows = length k.1.rows }

abbrev pub if_listed : Result (List Kept) ℕ → Result (List ListedTree) HistoryFault
if_listed (Err k) = Err (HistoryFault.Line k)
if_listed (Ok ks) = Ok (map listed ks)

-- of each record in a file what is said of it, in order
abbrev pub list_of : List ℕ → Result (List ListedTree) HistoryFault
list_of bytes = if_listed (records_of bytes)

abbrev pub if_scanned : Result (List Kept) ℕ → Result Unit HistoryFault
if_scanned (Err k) = Err (HistoryFault.Line k)
if_scanned (Ok ks) = Ok tt

-- whether each line that says something is a record
abbrev pub scan_of : List ℕ → Result Unit HistoryFault
scan_of bytes = if_scanned (records_of bytes)
