-- Histories at worked values. Lines that hold JSON don't compute; what follows from what is on each line does.
use Rattle.std.proofs.Common.{◌≡◌, ℕ, List, [], ◌∷◌, true, false, map, Ok, Err, pos, refl}
use Rattle.std.specs.Prelude.{codes}
use Rattle.wf_lines.specs.Lines.{lines_of, without_return}
use Rattle.wf_record.specs.Worked.{empty, finished}
use Rattle.wf_record.specs.declared.status.RunStatus.{RunStatus}
use Rattle.wf_record_form.specs.declared.fault.RecordFault.{RecordFault}
use Rattle.wf_history.specs.History.{bad, find, holds, if_listed, if_record, if_records, if_scanned, is_silent, line_then, list_of}
use Rattle.wf_history.specs.History.{on_line, records_of, scan_of, silent}
use Rattle.wf_history.specs.declared.fault.HistoryFault.{HistoryFault}

-- ---- lines

silent-lines : map is_silent ([] ∷ codes "#" ∷ codes "# kept {}" ∷ []) ≡ true ∷ true ∷ true ∷ []
silent-lines = refl

-- a blank, a carriage return and a mark in front of `#` aren't silent
other-lines : map is_silent (codes " " ∷ (13 ∷ []) ∷ codes " #" ∷ (239 ∷ 187 ∷ 191 ∷ 35 ∷ []) ∷ codes "{}" ∷ codes "\"" ∷ codes "$" ∷ [])
    ≡ false ∷ false ∷ false ∷ false ∷ false ∷ false ∷ false ∷ []
other-lines = refl

on_line-comment : on_line (codes "# {") ≡ silent
on_line-comment = refl

record-held : if_record (Ok empty) ≡ holds empty
record-held = refl

record-none : if_record (Err (RecordFault.Form [])) ≡ bad
record-none = refl

record-other_form : if_record (Err (RecordFault.Version (pos 3))) ≡ bad
record-other_form = refl

-- a file of no bytes, and files of silent lines alone, with carriage returns at their ends
no_bytes : records_of [] ≡ Ok []
no_bytes = refl

silent-file : records_of (codes "\n# a\n\r\n# b\r\n\n#") ≡ Ok []
silent-file = refl

-- ---- the lines of a file

-- a line in front of those that follow: the first that is no record is told, also where a record stands before it
then-silent : line_then 4 silent (Ok ((5, empty) ∷ [])) ≡ Ok ((5, empty) ∷ [])
then-silent = refl

then-silent_fault : line_then 4 silent (Err 6) ≡ Err 6
then-silent_fault = refl

then-record : line_then 4 (holds finished) (Ok ((5, empty) ∷ [])) ≡ Ok ((4, finished) ∷ (5, empty) ∷ [])
then-record = refl

then-record_fault : line_then 4 (holds finished) (Err 6) ≡ Err 6
then-record_fault = refl

then-bad : line_then 4 bad (Ok ((5, empty) ∷ [])) ≡ Err 4
then-bad = refl

then-first_of_two : line_then 4 bad (Err 6) ≡ Err 4
then-first_of_two = refl

-- lines are counted from 1, the silent ones too
counted-first : (bytes line : List ℕ) → lines_of bytes ≡ line ∷ [] → on_line (without_return line) ≡ bad → records_of bytes ≡ Err 1
counted-first bytes line is none = rw (is, none) refl

counted-second : (bytes line : List ℕ) → lines_of bytes ≡ codes "#" ∷ line ∷ [] → on_line (without_return line) ≡ bad
    → records_of bytes ≡ Err 2
counted-second bytes line is none = rw (is, none) refl

-- ---- the record of a run

find-none : if_records (codes "r") (Ok []) ≡ Err HistoryFault.NoRun
find-none = refl

find-other_case : if_records (codes "R") (Ok ((1, empty) ∷ [])) ≡ Err HistoryFault.NoRun
find-other_case = refl

-- "r" is the run of `empty`, and "r-1" that of `finished`
find-longer : if_records (codes "r") (Ok ((1, finished) ∷ [])) ≡ Err HistoryFault.NoRun
find-longer = refl

find-among_others : if_records (codes "r-1") (Ok ((2, empty) ∷ (5, finished) ∷ (7, empty) ∷ [])) ≡ Ok finished
find-among_others = refl

find-twice : if_records (codes "r") (Ok ((2, empty) ∷ (5, finished) ∷ (7, empty) ∷ [])) ≡ Err (HistoryFault.Twice 2 7)
find-twice = refl

-- of three the first two
find-three_times : if_records (codes "r") (Ok ((2, empty) ∷ (5, empty) ∷ (7, empty) ∷ [])) ≡ Err (HistoryFault.Twice 2 5)
find-three_times = refl

-- a line that is no record is told before anything of the run
find-line : if_records (codes "r") (Err 9) ≡ Err (HistoryFault.Line 9)
find-line = refl

find-no_bytes : find (codes "r") [] ≡ Err HistoryFault.NoRun
find-no_bytes = refl

-- ---- all records

list-two : if_listed (Ok ((2, finished) ∷ (5, empty) ∷ []))
    ≡ Ok (record { run = codes "r-1"; status = RunStatus.Failed; rows = 4 }
    ∷ record { run = codes "r"; status = RunStatus.Succeeded; rows = 0 } ∷ [])
list-two = refl

list-line : if_listed (Err 9) ≡ Err (HistoryFault.Line 9)
list-line = refl

list-silent : list_of (codes "#\n") ≡ Ok []
list-silent = refl

scan-two : if_scanned (Ok ((2, finished) ∷ (5, finished) ∷ [])) ≡ Ok tt
scan-two = refl

scan-line : if_scanned (Err 9) ≡ Err (HistoryFault.Line 9)
scan-line = refl

scan-no_bytes : scan_of [] ≡ Ok tt
scan-no_bytes = refl
