-- Tables as lists of entries, however an engine keeps them.
use Rattle.std.specs.Prelude.{◌≡◌, ℕ, ◌+◌, List, [], ◌∷◌, Some, ◌⊎◌}
use Rattle.wf_layers.specs.Address.{Address, Table}

abbrev pub Among : {E : Type 0} → List E → E → Type 0
Among [] e = ⊥
Among (x ∷ xs) e = (x ≡ e) ⊎ Among xs e

-- Each entry of the list is in the table, and each of the table is in the list.
pub record Lists {E A : Type 0} (at : E → Address) (what : E → A) (t : Table A) (xs : List E) : Type 0 where
  pub each : (e : E) → Among xs e → t (at e) ≡ Some (what e)
  pub all : (x : Address) (a : A) → t x ≡ Some a → (e : E) × Among xs e × (at e ≡ x)

abbrev pub sum_of : {E : Type 0} → (E → ℕ) → List E → ℕ
sum_of h [] = 0
sum_of h (x ∷ xs) = h x + sum_of h xs
