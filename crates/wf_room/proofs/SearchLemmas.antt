-- What one look at an item tells of all others of a list in the order of keys.
use Rattle.std.proofs.Common.{◌≡◌, ℕ, zero, suc, ◌<◌, ◌≤◌, List, [], ◌∷◌, length, get_or, take, drop, slice_get, Some, Ok, Ordering, Less, Equal, Greater, ap, ◌∙◌, arith}
use Rattle.std.proofs.lemmas.Option.{none-some}
use Rattle.std.specs.Cmp.{IsTotalOrder}
use Rattle.std.specs.List.{AllByRecursion}
use Rattle.std.specs.Ordering.{ordering_reverse}
use Rattle.wf_lists.specs.KeyOrder.{IsInKeyOrder, IsKeyPlace, IsKeyGap}
use Rattle.wf_lists.proofs.KeyOrderLemmas.{searched_key}

within : {X : Type 0} (xs : List X) (i : ℕ) (x : X) → slice_get xs i ≡ Some x → i < length xs
within [] i x at = absurd (none-some x at)
within (y ∷ ys) zero x at = omega arith
within (y ∷ ys) (suc i) x at = omega (arith, within ys i x at)

any-get : {X : Type 0} (xs : List X) (i : ℕ) (x d : X) → slice_get xs i ≡ Some x → get_or xs i d ≡ x
any-get [] i x d at = absurd (none-some x at)
any-get (y ∷ ys) zero x d at = let same : y ≡ x = Prim.cc in same
any-get (y ∷ ys) (suc i) x d at = any-get ys i x d at

module _ {K : Type 0} {cmp : K → K → Ordering} (total : IsTotalOrder cmp) {X : Type 0} (key : X → K) where
  abbrev pub AreBelow : K → List X → Type 0
  AreBelow k xs = AllByRecursion (λ x. cmp k (key x) ≡ Greater) xs

  abbrev pub AreAbove : K → List X → Type 0
  AreAbove k xs = AllByRecursion (λ x. cmp k (key x) ≡ Less) xs

  reversed : (k l : K) (o : Ordering) → cmp k l ≡ o → cmp l k ≡ ordering_reverse o
  reversed k l o is = total.antisymm l k ∙ ap ordering_reverse is

  all-at : (P : X → Type 0) (xs : List X) (i : ℕ) (x : X) → AllByRecursion P xs → slice_get xs i ≡ Some x → P x
  all-at P [] i x all at = absurd (none-some x at)
  all-at P (y ∷ ys) zero x all at = let same : y ≡ x = Prim.cc in rw (← same) all.0
  all-at P (y ∷ ys) (suc i) x all at = all-at P ys i x all.1 at

  -- an item below the key, and those before it
  pub below_to : (k : K) (xs : List X) (i : ℕ) (x : X) → IsInKeyOrder cmp key xs → slice_get xs i ≡ Some x → cmp (key x) k ≡ Less
      → AreBelow k (take (suc i) xs)
  below_to k [] i x order at less = tt
  below_to k (y ∷ ys) zero x order at less =
      let same : y ≡ x = Prim.cc in (rw same (reversed (key x) k Less less), tt)
  below_to k (y ∷ ys) (suc i) x order at less =
      let before = all-at (λ z. cmp (key y) (key z) ≡ Less) ys i x order.0 at in
      (reversed (key y) k Less (total.trans (key y) (key x) k before less), below_to k ys i x order.1 at less)

  above-all : (k : K) (y : X) (ys : List X) → cmp k (key y) ≡ Less → AllByRecursion (λ z. cmp (key y) (key z) ≡ Less) ys → AreAbove k ys
  above-all k y [] less all = tt
  above-all k y (z ∷ zs) less all = (total.trans k (key y) (key z) less all.0, above-all k y zs less all.1)

  -- an item above the key, and those behind it
  pub above_from : (k : K) (xs : List X) (i : ℕ) (x : X) → IsInKeyOrder cmp key xs → slice_get xs i ≡ Some x → cmp (key x) k ≡ Greater
      → AreAbove k (drop i xs)
  above_from k [] i x order at greater = absurd (none-some x at)
  above_from k (y ∷ ys) zero x order at greater =
      let same : y ≡ x = Prim.cc in
      let less : cmp k (key y) ≡ Less = rw same (reversed (key x) k Greater greater) in
      (less, above-all k y ys less order.0)
  above_from k (y ∷ ys) (suc i) x order at greater = above_from k ys i x order.1 at greater

  -- a gap is where those below end and those above begin
  pub gap_at : (k : K) (xs : List X) (i : ℕ) → i ≤ length xs → AreBelow k (take i xs) → AreAbove k (drop i xs) → IsKeyGap cmp key k xs i
  gap_at k [] i most below above = omega (arith, most)
  gap_at k (x ∷ xs) zero most below above = above
  gap_at k (x ∷ xs) (suc i) most below above = (below.0, gap_at k xs i (omega (arith, most)) below.1 above)

  -- an item of the key is at its place
  pub place_at : (k : K) (xs : List X) (i : ℕ) (x : X) → IsInKeyOrder cmp key xs → slice_get xs i ≡ Some x → cmp (key x) k ≡ Equal
      → IsKeyPlace cmp key k xs i
  place_at k xs i x order at equal =
      (searched_key total key k xs (Ok i) order (within xs i x at) (λ d. rw (any-get xs i x d at) equal)).place
