-- What edits make of a list in order: what stands in it still, and what a filter leaves of it.
use Rattle.std.proofs.Common.{◌≡◌, Bool, true, false, cond, List, [], ◌∷◌, Some, None, filter, map, Ordering, Less, Equal, Greater, is_eq, inl, inr, refl, sym, ap, ◌∙◌}
use Rattle.std.specs.Cmp.{IsTotalOrder}
use Rattle.std.specs.List.{AllByRecursion}
use Rattle.std.specs.Ordering.{match_ordering}
use Rattle.std.proofs.lemmas.Option.{none-some}
use Rattle.wf_lists.specs.KeyOrder.{IsInKeyOrder, find_key, put_key, without_key}
use Rattle.wf_layers.specs.Listed.{Among}

-- ---- what stands in it

module _ {K X : Type 0} (cmp : K → K → Ordering) (key : X → K) where
  -- one is put in
  pub own_among : (x : X) (xs : List X) → Among (put_key cmp key x xs) x
  own_among x [] = inl refl
  own_among x (y ∷ ys) =
      elim (cmp (key x) (key y)) as (λ o. Among (match_ordering o (x ∷ y ∷ ys) (x ∷ ys) (y ∷ put_key cmp key x ys)) x) [
        | Less ↦ inl refl
        | Equal ↦ inl refl
        | Greater ↦ inr (own_among x ys)
      ]

  put_at : (x y z : X) (ys : List X) (o : Ordering) → cond (is_eq o) (Some y) (find_key cmp key (key x) ys) ≡ None
      → Among (y ∷ ys) z → (find_key cmp key (key x) ys ≡ None → Among ys z → Among (put_key cmp key x ys) z)
      → Among (match_ordering o (x ∷ y ∷ ys) (x ∷ ys) (y ∷ put_key cmp key x ys)) z
  put_at x y z ys Less none among later = inr among
  put_at x y z ys Equal none among later = absurd (none-some y (sym none))
  put_at x y z ys Greater none (inl here) later = inl here
  put_at x y z ys Greater none (inr among) later = inr (later none among)

  pub put_among : (x z : X) (xs : List X) → find_key cmp key (key x) xs ≡ None → Among xs z → Among (put_key cmp key x xs) z
  put_among x z [] none among = absurd among
  put_among x z (y ∷ ys) none among = put_at x y z ys (cmp (key x) (key y)) none among (put_among x z ys)

  -- one is taken out
  without_at : (k : K) (y z : X) (ys : List X) (b : Bool) → Among (y ∷ ys) z
      → ((x : X) → cond b (Some y) (find_key cmp key k ys) ≡ Some x → x ≡ z → ⊥)
      → (((x : X) → find_key cmp key k ys ≡ Some x → x ≡ z → ⊥) → Among ys z → Among (without_key cmp key k ys) z)
      → Among (cond b ys (y ∷ without_key cmp key k ys)) z
  without_at k y z ys true (inl here) other later = absurd (other y refl here)
  without_at k y z ys true (inr among) other later = among
  without_at k y z ys false (inl here) other later = inl here
  without_at k y z ys false (inr among) other later = inr (later other among)

  pub without_among : (k : K) (z : X) (xs : List X) → ((x : X) → find_key cmp key k xs ≡ Some x → x ≡ z → ⊥) → Among xs z
      → Among (without_key cmp key k xs) z
  without_among k z [] other among = absurd among
  without_among k z (y ∷ ys) other among =
      without_at k y z ys (is_eq (cmp k (key y))) among other (without_among k z ys)

-- ---- by its keys, and by a filter

-- a list that is put into, by the keys of its items
pub map-put : {X K : Type 0} (cmp : K → K → Ordering) (key : X → K) (x : X) (xs : List X)
    → map key (put_key cmp key x xs) ≡ put_key cmp (λ (k : K). k) (key x) (map key xs)
map-put cmp key x [] = refl
map-put cmp key x (y ∷ ys) =
    elim (cmp (key x) (key y)) as (λ o. map key (match_ordering o (x ∷ y ∷ ys) (x ∷ ys) (y ∷ put_key cmp key x ys))
    ≡ match_ordering o (key x ∷ key y ∷ map key ys) (key x ∷ map key ys) (key y ∷ put_key cmp (λ k. k) (key x) (map key ys))) [
      | Less ↦ refl
      | Equal ↦ refl
      | Greater ↦ ap (λ ks. key y ∷ ks) (map-put cmp key x ys)
    ]

module _ {K : Type 0} {cmp : K → K → Ordering} (total : IsTotalOrder cmp) (holds : K → Bool) (k : K) where
  abbrev Below : List K → Type 0
  Below ks = AllByRecursion (λ j. cmp k j ≡ Less) ks

  below-filter : (ks : List K) → Below ks → Below (filter holds ks)
  below-filter [] all = tt
  below-filter (j ∷ ks) all =
      elim (holds j) as (λ b. Below (cond b (j ∷ filter holds ks) (filter holds ks))) [
        | true ↦ (all.0, below-filter ks all.1)
        | false ↦ below-filter ks all.1
      ]

  put-below : (ks : List K) → Below ks → put_key cmp (λ (j : K). j) k ks ≡ k ∷ ks
  put-below [] all = refl
  put-below (j ∷ ks) all = ap (λ o. match_ordering o (k ∷ j ∷ ks) (k ∷ ks) (j ∷ put_key cmp (λ i. i) k ks)) all.0

  above : (j : K) (ks : List K) → cmp k j ≡ Less → AllByRecursion (λ i. cmp j i ≡ Less) ks → Below ks
  above j [] less all = tt
  above j (i ∷ ks) less all = (total.trans k j i less all.0, above j ks less all.1)

  filter_at : (j : K) (ks : List K) (o : Ordering) (b : Bool) → cmp k j ≡ o → holds j ≡ b → ((i : K) → cmp k i ≡ Equal → k ≡ i)
      → IsInKeyOrder cmp (λ (i : K). i) (j ∷ ks) → holds k ≡ true
      → filter holds (put_key cmp (λ (i : K). i) k ks) ≡ put_key cmp (λ (i : K). i) k (filter holds ks)
      → filter holds (match_ordering o (k ∷ j ∷ ks) (k ∷ ks) (j ∷ put_key cmp (λ i. i) k ks))
      ≡ put_key cmp (λ (i : K). i) k (cond b (j ∷ filter holds ks) (filter holds ks))
  filter_at j ks Less true is at exact order own rest =
      rw (own, at, is) refl
  filter_at j ks Less false is at exact order own rest =
      rw (own, at) (sym (put-below (filter holds ks) (below-filter ks (above j ks is order.0))))
  filter_at j ks Equal true is at exact order own rest = rw (own, is) refl
  filter_at j ks Equal false is at exact order own rest =
      absurd (let it : true ≡ false = sym own ∙ (ap holds (exact j is) ∙ at) in cc)
  filter_at j ks Greater true is at exact order own rest = rw (at, is) (ap (λ is. j ∷ is) rest)
  filter_at j ks Greater false is at exact order own rest = rw (at) rest

  -- it is put in among those that the filter leaves, where it is left itself
  pub filter-put : ((i : K) → cmp k i ≡ Equal → k ≡ i) → (ks : List K) → IsInKeyOrder cmp (λ (i : K). i) ks → holds k ≡ true
      → filter holds (put_key cmp (λ (i : K). i) k ks) ≡ put_key cmp (λ (i : K). i) k (filter holds ks)
  filter-put exact [] order own = rw own refl
  filter-put exact (j ∷ ks) order own =
      filter_at j ks (cmp k j) (holds j) refl refl exact order own (filter-put exact ks order.1 own)
