-- The record that a file has.
use Rattle.std.specs.Prelude.{ℕ, List, [], ◌∷◌, ◌++◌, Option, None, Some, Result, Ok, Err, if◌then◌else◌, bytes_eq, codes, decimal}
use Rattle.wf_def.specs.DefTree.{DefTree}
use Rattle.wf_history.specs.History.{ListedTree, find, list_of}
use Rattle.wf_history.specs.declared.fault.HistoryFault.{HistoryFault}
use Rattle.wf_record.specs.Record.{RecordTree}

-- the first record of a file, whose run no other one of the file has
abbrev pub first_listed : List ℕ → Result (List ListedTree) HistoryFault → Result RecordTree HistoryFault
first_listed bytes (Err f) = Err f
first_listed bytes (Ok []) = Err HistoryFault.NoRun
first_listed bytes (Ok (l ∷ ls)) = find l.run bytes

abbrev pub first_log : List ℕ → Result RecordTree HistoryFault
first_log bytes = first_listed bytes (list_of bytes)

-- why there is none, in words
abbrev pub log_words : HistoryFault → List ℕ
log_words (HistoryFault.Line number) = codes "Line " ++ decimal number
log_words HistoryFault.NoRun = codes "NoRun"
log_words (HistoryFault.Twice first second) = codes "Twice " ++ (decimal first ++ (32 ∷ decimal second))
log_words HistoryFault.Memory = []

-- which of the two files it is, as the words of a call have it
abbrev pub record_word : List ℕ
record_word = codes "record "

abbrev pub earlier_word : List ℕ
earlier_word = codes "earlier "

-- and in a line
abbrev pub log_line : List ℕ → List ℕ → List ℕ
log_line which words = which ++ (words ++ 10 ∷ [])

-- a record has to be one of the definition
abbrev pub of_definition : List ℕ → DefTree → Result RecordTree HistoryFault → Result RecordTree (List ℕ)
of_definition which d (Err f) = Err (log_line which (log_words f))
of_definition which d (Ok r) = if bytes_eq d.digest r.digest then Ok r else Err (log_line which (codes "OtherDefinition"))

-- the record of a definition that a file has, or the line that says why it has none: None stands for a file over its limit
abbrev pub log_of : List ℕ → DefTree → Option (List ℕ) → Result RecordTree (List ℕ)
log_of which d None = Err (log_line which (codes "too long"))
log_of which d (Some bytes) = of_definition which d (first_log bytes)
