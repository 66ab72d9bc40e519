-- A RECORD THAT STANDS FOR ANOTHER: it is the other, but isn't told what the attempts came to in some of its rows, or in none. So it is of
-- a line of the older form, and of what was resubmitted from one.
use Rattle.std.specs.Prelude.{◌≡◌, ◌⊎◌, ℕ, Bool, List, [], ◌∷◌, map, Option, None, Some, if◌then◌else◌}
use Rattle.wf_record.specs.Record.{RecordTree, RowTree, find_row}
use Rattle.wf_record_form.specs.ReadBack.{untold_row}

-- each row is the other's, or it has as many attempts, each of them unknown
abbrev pub RowsStandFor : List RowTree → List RowTree → Type 0
RowsStandFor [] [] = Unit {0}
RowsStandFor (r ∷ rs) (q ∷ qs) = ((r ≡ q) ⊎ (r ≡ untold_row q)) × RowsStandFor rs qs
RowsStandFor rs qs = ⊥

pub record StandsFor (r m : RecordTree) : Type 0 where
  pub rows : RowsStandFor r.rows m.rows
  pub all_else : r ≡ record m { rows = r.rows }

-- ---- the attempts of kept rows as the older record has them

abbrev pub attempts_of : Option RowTree → RowTree → RowTree
attempts_of None r = r
attempts_of (Some old) r = record { address = r.address; row = record r.row { attempts = old.row.attempts } }

abbrev pub as_kept : (List ℕ → Bool) → List RowTree → RowTree → RowTree
as_kept keeps old r = if keeps r.address.name then attempts_of (find_row r.address old) r else r

abbrev pub with_attempts : (List ℕ → Bool) → List RowTree → RecordTree → RecordTree
with_attempts keeps old m = record m { rows = map (as_kept keeps old) m.rows }
