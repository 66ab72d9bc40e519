-- What the text of an end holds: a line for each record, and below it one that begins with `# run ` and ends with the run's peak.
use Rattle.std.specs.Prelude.{ℕ, ◌+◌, ◌-◌, ◌*◌, List, [], ◌∷◌, ◌++◌, Bool, false, not, ◌&&◌, nat_eq, nat_le, if◌then◌else◌, codes}
use Rattle.std.specs.Prelude.{Option, Some, Result, Ok, Err}
use Rattle.std.specs.List.{starts_with}
use Rattle.wf_lines.specs.Lines.{lines_of}
use Rattle.wf_json.specs.Read.{read_value}
use Rattle.wf_json.specs.declared.fault.JsonFault.{JsonFault}
use Rattle.wf_val.specs.Cut.{cut_u64}
use Rattle.wf_val.specs.Get.{get}
use Rattle.wf_val.specs.ValueTree.{ValueTree, text}

-- a line that isn't empty and doesn't begin with `#`
abbrev pub is_record : List ℕ → Bool
is_record [] = false
is_record (b ∷ line) = not (nat_eq b 35)

abbrev pub record_lines : List (List ℕ) → List (List ℕ)
record_lines [] = []
record_lines (line ∷ lines) = if is_record line then line ∷ record_lines lines else record_lines lines

-- lines, each with its end
abbrev pub joined : List (List ℕ) → List ℕ
joined [] = []
joined (line ∷ lines) = (line ++ 10 ∷ []) ++ joined lines

-- the text of the records alone
abbrev pub records_text : List ℕ → List ℕ
records_text s = joined (record_lines (lines_of s))

abbrev pub is_summary : List ℕ → Bool
is_summary line = starts_with nat_eq line (codes "# run ")

-- a digit behind those that come to n; anything else begins anew
abbrev pub digit_then : ℕ → ℕ → ℕ
digit_then n b = if nat_le 48 b && nat_le b 57 then cut_u64 (cut_u64 (n * 10) + (b - 48)) else 0

-- what the digits at the end of a line come to, behind those that come to n
abbrev pub ending_number : ℕ → List ℕ → ℕ
ending_number n [] = n
ending_number n (b ∷ line) = ending_number (digit_then n b) line

-- ---- the run of a record

abbrev pub text_or_empty : Option ValueTree → List ℕ
text_or_empty (Some (text s)) = s
text_or_empty t = []

abbrev pub run_in : Result ValueTree JsonFault → List ℕ
run_in (Ok t) = text_or_empty (get (codes "run") t)
run_in (Err fault) = []

abbrev pub run_of_first : List (List ℕ) → List ℕ
run_of_first [] = []
run_of_first (line ∷ lines) = run_in (read_value line)

-- the name of the run whose record is the first in a text
abbrev pub run_named : List ℕ → List ℕ
run_named s = run_of_first (record_lines (lines_of s))
