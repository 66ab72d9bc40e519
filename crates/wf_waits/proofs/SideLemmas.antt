-- Two lists in order, of which one has all keys of the other: where they agree at a place, they agree up to there.
use Rattle.std.proofs.Common.{◌≡◌, ◌≤◌, ◌⊎◌, ℕ, zero, suc, List, [], ◌∷◌, Some, Ordering, Less, Equal, inl, inr, slice_get, refl, sym, ap, ◌∙◌, subst, arith}
use Rattle.std.specs.Cmp.{IsTotalOrder}
use Rattle.std.specs.List.{AllByRecursion}
use Rattle.std.proofs.lemmas.Cmp.{tied_itself}
use Rattle.std.proofs.lemmas.Option.{none-some}
use Rattle.wf_lists.specs.KeyOrder.{IsInKeyOrder}
use Rattle.wf_layers.specs.Listed.{Among}
use Rattle.wf_waits.proofs.ListLemmas.{all_among, all_at, some_one}

module _ {K E : Type 0} {cmp : K → K → Ordering} (total : IsTotalOrder cmp) (key : E → K) where
  -- one of the list has the key
  abbrev pub HasKey : List E → K → Type 0
  HasKey ys k = (y : E) × Among ys y × (key y ≡ k)

  -- at a place both have the same key
  pub record AreAlike (xs ys : List E) (place : ℕ) : Type 0 where
    pub x : E
    pub y : E
    pub x_is : slice_get xs place ≡ Some x
    pub y_is : slice_get ys place ≡ Some y
    pub same : key x ≡ key y

  not_below : (j k : K) → cmp j k ≡ Less → j ≡ k → ⊥
  not_below j k less same =
      let tie : cmp k k ≡ Less = subst (λ i. cmp i k ≡ Less) same less in
      let it : Equal ≡ Less = sym (tied_itself total k) ∙ tie in cc

  -- a key of the whole that is above one of the whole isn't the first
  later : (x y : E) (ys : List E) → AllByRecursion (λ z. cmp (key y) (key z) ≡ Less) ys → HasKey (y ∷ ys) (key x) → (z : E)
      → cmp (key x) (key z) ≡ Less → HasKey (y ∷ ys) (key z) → HasKey ys (key z)
  later x y ys above (f, there, f_is) z less (e, inr among, e_is) = (e, among, e_is)
  later x y ys above (f, inl here, f_is) z less (e, inl first, e_is) =
      absurd (not_below (key x) (key z) less (sym f_is ∙ (sym (ap key here) ∙ (ap key first ∙ e_is))))
  later x y ys above (f, inr among, f_is) z less (e, inl first, e_is) =
      let under : cmp (key y) (key x) ≡ Less =
      subst (λ k. cmp (key y) k ≡ Less) f_is (all_among (λ v. cmp (key y) (key v) ≡ Less) ys f above among) in
      absurd (not_below (key y) (key z) (total.trans (key y) (key x) (key z) under less) (ap key first ∙ e_is))

  all_later : (x y : E) (xs ys : List E) → AllByRecursion (λ z. cmp (key x) (key z) ≡ Less) xs
      → AllByRecursion (λ z. cmp (key y) (key z) ≡ Less) ys → HasKey (y ∷ ys) (key x)
      → AllByRecursion (λ z. HasKey (y ∷ ys) (key z)) xs → AllByRecursion (λ z. HasKey ys (key z)) xs
  all_later x y [] ys less above first part = tt
  all_later x y (z ∷ xs) ys less above first part =
      (later x y ys above first z less.0 part.0, all_later x y xs ys less.1 above first part.1)

  -- the first is the least
  least : (ys : List E) → IsInKeyOrder cmp key ys → (y e : E) → slice_get ys 0 ≡ Some y → Among ys e
      → (y ≡ e) ⊎ (cmp (key y) (key e) ≡ Less)
  least [] order y e is among = absurd among
  least (u ∷ us) order y e is (inl same) = inl (sym (some_one is) ∙ same)
  least (u ∷ us) order y e is (inr among) =
      inr (subst (λ v. cmp (key v) (key e) ≡ Less) (some_one is) (all_among (λ v. cmp (key u) (key v) ≡ Less) us e order.0 among))

  -- so the first of the part is the first of the whole where the next ones are alike
  first_same : (x y : E) (xs ys : List E) → AllByRecursion (λ z. cmp (key x) (key z) ≡ Less) xs → IsInKeyOrder cmp key ys
      → HasKey (y ∷ ys) (key x) → AreAlike xs ys 0 → key x ≡ key y
  first_same x y xs ys above order (e, inl here, e_is) next = sym (ap key here ∙ e_is)
  first_same x y xs ys above order (e, inr among, e_is) next =
      absurd (go (least ys order next.y e next.y_is among))
    where
      less : cmp (key x) (key next.y) ≡ Less
      less = subst (λ k. cmp (key x) k ≡ Less) next.same (all_at (λ z. cmp (key x) (key z) ≡ Less) xs 0 next.x above next.x_is)

      go : (next.y ≡ e) ⊎ (cmp (key next.y) (key e) ≡ Less) → ⊥
      go (inl same) = not_below (key x) (key next.y) less (sym e_is ∙ sym (ap key same))
      go (inr under) = not_below (key x) (key e) (total.trans (key x) (key next.y) (key e) less under) (sym e_is)

  up_one : (x y : E) (xs ys : List E) (n : ℕ) → AreAlike xs ys n → AreAlike (x ∷ xs) (y ∷ ys) (suc n)
  up_one x y xs ys n a = record { x = a.x; y = a.y; x_is = a.x_is; y_is = a.y_is; same = a.same }

  down_one : (x y : E) (xs ys : List E) (n : ℕ) → AreAlike (x ∷ xs) (y ∷ ys) (suc n) → AreAlike xs ys n
  down_one x y xs ys n a = record { x = a.x; y = a.y; x_is = a.x_is; y_is = a.y_is; same = a.same }

  pub alike_before : (xs ys : List E) → IsInKeyOrder cmp key xs → IsInKeyOrder cmp key ys → AllByRecursion (λ x. HasKey ys (key x)) xs
      → (n : ℕ) → AreAlike xs ys n → (p : ℕ) → p ≤ n → AreAlike xs ys p
  alike_before [] ys order order' part n a p le = absurd (none-some a.x a.x_is)
  alike_before (x ∷ xs) [] order order' part n a p le = absurd (none-some a.y a.y_is)
  alike_before (x ∷ xs) (y ∷ ys) order order' part zero a zero le = a
  alike_before (x ∷ xs) (y ∷ ys) order order' part zero a (suc p) le = absurd (omega (arith, le))
  alike_before (x ∷ xs) (y ∷ ys) order order' part (suc n) a zero le = record {
    x = x;
    y = y;
    x_is = refl;
    y_is = refl;
    same =
        first_same x y xs ys order.0 order'.1 part.0
        (alike_before xs ys order.1 order'.1 (all_later x y xs ys order.0 order'.0 part.0 part.1) n (down_one x y xs ys n a) 0 (omega arith));
  }
  alike_before (x ∷ xs) (y ∷ ys) order order' part (suc n) a (suc p) le =
      up_one x y xs ys p
      (alike_before xs ys order.1 order'.1 (all_later x y xs ys order.0 order'.0 part.0 part.1) n (down_one x y xs ys n a) p
      (omega (arith, le)))
