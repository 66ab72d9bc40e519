-- What a test may name of a record and of a row.
use Rattle.std.specs.Prelude.{ℕ, List, [], ◌∷◌, codes, Bool, bytes_eq}
use Rattle.std.specs.List.{list_any}

-- of a record, its members but for those that say what made it (`definition`, `form`), and its rows by their addresses
abbrev pub record_names : List (List ℕ)
record_names =
    codes "actions" ∷ codes "error" ∷ codes "outputs" ∷ codes "parameters" ∷ codes "response" ∷ codes "run" ∷ codes "status"
    ∷ codes "trigger" ∷ []

-- of a row, its members
abbrev pub row_names : List (List ℕ)
row_names =
    codes "at" ∷ codes "attempts" ∷ codes "code" ∷ codes "error" ∷ codes "inputs" ∷ codes "name" ∷ codes "outputs" ∷ codes "status"
    ∷ codes "tracked" ∷ []

abbrev pub is_named : List ℕ → List (List ℕ) → Bool
is_named k names = list_any (bytes_eq k) names
