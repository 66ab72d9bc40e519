-- The loops round two actions, by the lists of those round each, outermost first.
use Rattle.std.specs.Prelude.{ℕ, suc, List, [], ◌∷◌, drop, nat_eq, if◌then◌else◌}

-- how many are in both: a loop stands at the same place in both lists, behind the loops round it
abbrev pub common : List ℕ → List ℕ → ℕ
common [] ms = 0
common (l ∷ ls) [] = 0
common (l ∷ ls) (m ∷ ms) = if nat_eq l m then suc (common ls ms) else 0

-- those of the first list alone
abbrev pub beyond : List ℕ → List ℕ → List ℕ
beyond ls ms = drop (common ls ms) ls
