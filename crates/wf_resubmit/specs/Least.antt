-- The least name, in byte order, of which something holds.
use Rattle.std.specs.Prelude.{◌≡◌, ℕ, Bool, true, false, List, [], ◌∷◌, Option, Some, None, if◌then◌else◌, ◌⊎◌}
use Rattle.std.specs.Ordering.{is_lt}
use Rattle.wf_val.specs.NameOrder.{bytes_cmp}

abbrev pub lesser : Option (List ℕ) → List ℕ → Option (List ℕ)
lesser None k = Some k
lesser (Some m) k = if is_lt (bytes_cmp k m) then Some k else Some m

module _ (holds : List ℕ → Bool) where
  abbrev pub with_name : Option (List ℕ) → List ℕ → Option (List ℕ)
  with_name least k = if holds k then lesser least k else least

  abbrev pub least_from : Option (List ℕ) → List (List ℕ) → Option (List ℕ)
  least_from least [] = least
  least_from least (k ∷ ks) = least_from (with_name least k) ks

  abbrev pub least_of : List (List ℕ) → Option (List ℕ)
  least_of ks = least_from None ks

  -- in other words: it is one of the names, it holds of it, and of none that is less
  abbrev pub Below : List ℕ → List (List ℕ) → Type 0
  Below m [] = Unit {0}
  Below m (k ∷ ks) = (holds k ≡ true → is_lt (bytes_cmp k m) ≡ false) × Below m ks

  abbrev pub AmongNames : List ℕ → List (List ℕ) → Type 0
  AmongNames m [] = ⊥
  AmongNames m (k ∷ ks) = (k ≡ m) ⊎ AmongNames m ks

  abbrev pub NoneHolds : List (List ℕ) → Type 0
  NoneHolds [] = Unit {0}
  NoneHolds (k ∷ ks) = (holds k ≡ false) × NoneHolds ks

  abbrev pub IsLeastOf : List (List ℕ) → Option (List ℕ) → Type 0
  IsLeastOf ks None = NoneHolds ks
  IsLeastOf ks (Some m) = AmongNames m ks × (holds m ≡ true) × Below m ks
