-- How an instance stands past the first step of a way.
use Rattle.std.proofs.Common.{◌≡◌, ℕ, Bool, false, List, [], ◌∷◌, ◌++◌, Option, Some, None, option_map, nat_lt, inl, inr, refl, sym, ap, ◌∙◌}
use Rattle.wf_layers.specs.Address.{address}
use Rattle.wf_layers.proofs.Basics.{two}
use Rattle.wf_def.specs.AllActions.{numbered}
use Rattle.wf_def.specs.DefTree.{DefTree}
use Rattle.wf_catalog.specs.Resubmitted.{rows_by}
use Rattle.wf_record.specs.Record.{Row, RowTree}
use Rattle.wf_catalog.specs.Says.{is_skipped}
use Rattle.wf_shape.specs.Standing.{Standing, at_turn, if_fits, uncalled, unsaid}
use Rattle.wf_turns.specs.Reading.{reading}
use Rattle.wf_ways.specs.Along.{go_in}
use Rattle.wf_ways.specs.Way.{Into, whole, branch_of, item, round, Step}
use Rattle.wf_fits.specs.Fits.{Entry, through, turns, along_in, entry_by, entry_past, fits_in, fitting, turn_of}

-- past an entry
abbrev pub go_on : Option Entry → List ℕ → List ℕ → (Bool → List ℕ → List ℕ → Standing) → Standing
go_on None i rest on = unsaid
go_on (Some (through s)) i rest on = on s i rest
go_on (Some (turns n)) i rest on = at_turn n rest (λ j more. on false (i ++ j ∷ []) more)

is_past : (f : Row → Bool) (o : Option Row) (one : Row → Standing) (enter : Row → Entry) (i rest : List ℕ)
    (on : Bool → List ℕ → List ℕ → Standing) → ((row : Row) → one row ≡ go_on (Some (enter row)) i rest on)
    → if_fits f o one ≡ go_on (option_map enter (fitting f o)) i rest on
is_past f None one enter i rest on same = refl
is_past f (Some row) one enter i rest on same = elim (two (f row)) [
  | inl t ↦ rw t (same row)
  | inr n ↦ rw n refl
]

is_entered : (d : DefTree) (rows : List RowTree) (into : Into) (n : ℕ) (row : Row) (i rest : List ℕ)
    (on : Bool → List ℕ → List ℕ → Standing)
    → go_in (reading d) is_skipped (fits_in d) (rows_by d rows) into n row i rest on
    ≡ go_on (Some (entry_by into (numbered n d.top) row)) i rest on
is_entered d rows whole n row i rest on = refl
is_entered d rows (branch_of k) n row i rest on = refl
is_entered d rows item n row i rest on = refl
is_entered d rows round n row i rest on = refl

pub step_along : (d : DefTree) (rows : List RowTree) (s : Step) (ss : List Step) (skipped : Bool) (i rest : List ℕ)
    → along_in d rows (s ∷ ss) skipped i rest ≡ go_on (entry_past d rows s skipped i) i rest (along_in d rows ss)
step_along d rows s ss skipped i rest =
    is_past (fits_in d s.container skipped) (rows_by d rows (address s.container i)) _ (entry_by s.into (numbered s.container d.top))
    i rest (along_in d rows ss) (λ row. is_entered d rows s.into s.container row i rest (along_in d rows ss))

abbrev pub on_turn : Option (ℕ × List ℕ) → (ℕ → List ℕ → Standing) → Standing
on_turn None on = uncalled
on_turn (Some p) on = on p.0 p.1

pub turn_is : (n : ℕ) (rest : List ℕ) (on : ℕ → List ℕ → Standing) → at_turn n rest on ≡ on_turn (turn_of n rest) on
turn_is n [] on = refl
turn_is n (j ∷ more) on = elim (two (nat_lt j n)) [
  | inl t ↦ rw t refl
  | inr f ↦ rw f refl
]

pub one_step : (d : DefTree) (rows : List RowTree) (all ss : List Step) (s : Step) (skipped : Bool) (i rest : List ℕ) (o : Option Entry)
    → all ≡ s ∷ ss → o ≡ entry_past d rows s skipped i
    → along_in d rows all skipped i rest ≡ go_on o i rest (along_in d rows ss)
one_step d rows all ss s skipped i rest o first entry =
    ap (λ steps. along_in d rows steps skipped i rest) first
    ∙ (step_along d rows s ss skipped i rest ∙ ap (λ e. go_on e i rest (along_in d rows ss)) (sym entry))
