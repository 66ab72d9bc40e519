-- What the code has so far, as contracts see it.
use Rattle.std.specs.Prelude.{◌≡◌, ℕ, List, [], ◌∷◌, ◌++◌, map, Option, Some, None, Result, Ok, Err, if◌then◌else◌, ⊤}
use Rattle.wf_val.specs.Seen.{tree}
use Rattle.wf_val.specs.declared.val.Val.{Val}
use Rattle.wf_record_form.specs.OfVal.{of_val}
use Rattle.wf_record_form.specs.Reading.{record_of}
use Rattle.wf_record.specs.Record.{RecordTree}
use Rattle.wf_record.specs.Seen.{record_tree}
use Rattle.wf_history.specs.History.{Kept, ListedTree, OnLine, silent, holds, is_of, listed}
use Rattle.wf_history.specs.declared.fault.HistoryFault.{HistoryFault}
use Rattle.wf_history.specs.declared.listing.Listed.{Listed}
use Rattle.wf_history.specs.declared.sought.Sought as code

-- the value of a line's record, if the line says something
abbrev pub on_value : Option Val → OnLine
on_value None = silent
on_value (Some v) = holds (record_of (tree v))

abbrev pub IsJudged : Option Val → Type 0
IsJudged None = ⊤
IsJudged (Some v) = of_val (tree v) ≡ Ok (record_of (tree v))

abbrev pub listed_tree : Listed → ListedTree
listed_tree l = record { run = l.run; status = l.status; rows = l.rows }

-- ---- what has been found of a run: nothing, its record, or two lines

pub data SoughtTree : Type 0 where
  nothing : SoughtTree
  one : ℕ → RecordTree → SoughtTree
  two : ℕ → ℕ → SoughtTree

abbrev pub sought_tree : code.Sought → SoughtTree
sought_tree code.TheVariants.Nothing = nothing
sought_tree (code.TheVariants.One k r) = one k (record_tree r)
sought_tree (code.TheVariants.Two i j) = two i j

-- a further record of the run
abbrev pub one_more : SoughtTree → Kept → SoughtTree
one_more nothing k = one k.0 k.1
one_more (one j r) k = two j k.0
one_more (two i j) k = two i j

-- a further record
abbrev pub with_kept : List ℕ → SoughtTree → Kept → SoughtTree
with_kept run s k = if is_of run k then one_more s k else s

abbrev pub with_value : List ℕ → SoughtTree → ℕ → Option Val → SoughtTree
with_value run s k None = s
with_value run s k (Some v) = with_kept run s (k, record_of (tree v))

abbrev pub said : SoughtTree → Result RecordTree HistoryFault
said nothing = Err HistoryFault.NoRun
said (one k r) = Ok r
said (two i j) = Err (HistoryFault.Twice i j)

-- the records that are left, behind those so far
abbrev pub with_all : List ℕ → SoughtTree → List Kept → SoughtTree
with_all run s [] = s
with_all run s (k ∷ ks) = with_all run (with_kept run s k) ks

abbrev pub found_behind : List ℕ → SoughtTree → Result (List Kept) ℕ → Result RecordTree HistoryFault
found_behind run s (Err k) = Err (HistoryFault.Line k)
found_behind run s (Ok ks) = said (with_all run s ks)

abbrev pub listed_behind : List ListedTree → Result (List Kept) ℕ → Result (List ListedTree) HistoryFault
listed_behind ls (Err k) = Err (HistoryFault.Line k)
listed_behind ls (Ok ks) = Ok (ls ++ map listed ks)

-- what is said so far, and of a further line
abbrev pub listed_with : List ListedTree → Option Val → List ListedTree
listed_with ls None = ls
listed_with ls (Some v) = ls ++ listed (0, record_of (tree v)) ∷ []
