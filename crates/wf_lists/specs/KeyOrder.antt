-- Lists whose items have keys, each key once and in ascending order: the rows of a record by their addresses, the
-- members of an object by their names.
use Rattle.std.specs.Prelude.{◌≡◌, ℕ, zero, suc, List, [], ◌∷◌, Option, Some, None, if◌then◌else◌, ⊤}
use Rattle.std.specs.List.{AllByRecursion}
use Rattle.std.specs.Ordering.{is_eq, match_ordering}
use Rattle.std.specs.declared.cmp.Ordering.{Ordering}
use Rattle.std.specs.declared.cmp.Ordering.TheVariants.{Less, Equal, Greater}

module _ {K X : Type 0} (cmp : K → K → Ordering) (key : X → K) where
  -- each key is below those after it, so none stands twice
  abbrev pub IsInKeyOrder : List X → Type 0
  IsInKeyOrder [] = ⊤
  IsInKeyOrder (x ∷ xs) = AllByRecursion (λ y. cmp (key x) (key y) ≡ Less) xs × IsInKeyOrder xs

  -- the key k is above every key
  abbrev pub IsAboveKeys : K → List X → Type 0
  IsAboveKeys k xs = AllByRecursion (λ x. cmp (key x) k ≡ Less) xs

  -- the item of the key
  abbrev pub find_key : K → List X → Option X
  find_key k [] = None
  find_key k (x ∷ xs) = if is_eq (cmp k (key x)) then Some x else find_key k xs

  -- the items without the one of the key
  abbrev pub without_key : K → List X → List X
  without_key k [] = []
  without_key k (x ∷ xs) = if is_eq (cmp k (key x)) then xs else x ∷ without_key k xs

  -- the items with x where its key belongs, in place of the one that has the key
  abbrev pub put_key : X → List X → List X
  put_key x [] = x ∷ []
  put_key x (y ∷ ys) = match_ordering (cmp (key x) (key y)) (x ∷ y ∷ ys) (x ∷ ys) (y ∷ put_key x ys)

  -- the key k stands at place i, above the keys before it
  abbrev pub IsKeyPlace : K → List X → ℕ → Type 0
  IsKeyPlace k [] i = ⊥
  IsKeyPlace k (x ∷ xs) zero = cmp k (key x) ≡ Equal
  IsKeyPlace k (x ∷ xs) (suc i) = (cmp k (key x) ≡ Greater) × IsKeyPlace k xs i

  -- the key k would go to place i, above the keys before it and below the others
  abbrev pub IsKeyGap : K → List X → ℕ → Type 0
  IsKeyGap k [] i = i ≡ 0
  IsKeyGap k (x ∷ xs) zero = AllByRecursion (λ y. cmp k (key y) ≡ Less) (x ∷ xs)
  IsKeyGap k (x ∷ xs) (suc i) = (cmp k (key x) ≡ Greater) × IsKeyGap k xs i
