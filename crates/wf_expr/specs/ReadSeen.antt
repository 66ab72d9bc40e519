-- What a text was read as, and what reading it gave.
use Rattle.std.specs.Prelude.{◌≡◌, ℕ, Result, Ok, Err}
use Rattle.wf_val.specs.Cut.{cut_u32}
use Rattle.wf_expr.specs.FrontSeen.{items_seen}
use Rattle.wf_expr.specs.Reading.{Reading, whole_of, items_of}
use Rattle.wf_expr.specs.declared.fault.ParseFault.{ParseFault}
use Rattle.wf_expr.specs.declared.reader.Read.{Read}

abbrev pub read_seen : Read → Reading
read_seen (Read.Whole expression) = whole_of expression
read_seen (Read.Items front) = items_of (items_seen front)

-- the machine refused the text at the place that is told, cut
pub record Refused (outcome : Result Reading ℕ) (at : ℕ) : Type 0 where
  pub place : ℕ
  pub refused : outcome ≡ Err place
  pub told : at ≡ cut_u32 place

-- what a function returned is what the machine gave, unless memory ran out
abbrev pub Gives : Result Read ParseFault → Result Reading ℕ → Type 0
Gives (Ok r) outcome = outcome ≡ Ok (read_seen r)
Gives (Err (ParseFault.Syntax at)) outcome = Refused outcome at
Gives (Err (ParseFault.TooLong length)) outcome = ⊥
Gives (Err ParseFault.Memory) outcome = Unit {0}
