-- The words of a call.
use Rattle.std.specs.Prelude.{ℕ, List, [], ◌∷◌, Option, None, Some}

-- the names of the files: a definition's, a record's, and that of an earlier record where there is one
pub record Asked : Type 0 where
  pub definition : List ℕ
  pub log : List ℕ
  pub earlier : Option (List ℕ)

-- `DEF RECORD`, or `DEF EARLIER RECORD`
abbrev pub asked_of : List (List ℕ) → Option Asked
asked_of [] = None
asked_of (d ∷ []) = None
asked_of (d ∷ r ∷ []) = Some (record { definition = d; log = r; earlier = None })
asked_of (d ∷ e ∷ r ∷ []) = Some (record { definition = d; log = r; earlier = Some e })
asked_of (d ∷ e ∷ r ∷ x ∷ xs) = None
