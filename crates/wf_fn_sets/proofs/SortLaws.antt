-- The items in order: none is above a later one, and those that tie stand as they stood.
use Rattle.std.proofs.Common.{◌≡◌, zero, suc, ◌+◌, List, [], ◌∷◌, ◌++◌, refl, sym, ◌∙◌, ap, arith, cond, Bool, true, false, not, ◌&&◌}
use Rattle.std.proofs.Common.{get_or, append_assoc}
use Rattle.std.proofs.lemmas.Cmp.{on_total, upto}
use Rattle.std.proofs.lemmas.List.{append-nil}
use Rattle.std.proofs.lemmas.List.Sums.{sum_by-cons}
use Rattle.std.specs.Cmp.{IsTotalOrder}
use Rattle.std.specs.List.{AllByRecursion, count_by, filter}
use Rattle.std.specs.List.Sorted.{IsSortedByKey, IsStableByKey}
use Rattle.std.specs.Ordering.{is_lt, is_gt, ordering_reverse}
use Rattle.std.specs.declared.cmp.Ordering.{Ordering}
use Rattle.std.specs.declared.cmp.Ordering.TheVariants.{Less, Equal, Greater}
use Rattle.wf_val.specs.ValueOrder.{order}
use Rattle.wf_val.specs.ValueOrderLaws.{order-total}
use Rattle.wf_val.specs.ValueTree.{ValueTree}
use Rattle.wf_fn_sets.specs.Sorting.{insert_behind, sorted_onto, sorted}

module _ (key : ValueTree → ValueTree) where
  abbrev by_key : ValueTree → ValueTree → Ordering
  by_key x y = order (key x) (key y)

  by_key-total : IsTotalOrder by_key
  by_key-total = on_total key order-total

  -- no item is above one behind it
  abbrev pub IsAscending : List ValueTree → Type 0
  IsAscending [] = Unit {0}
  IsAscending (x ∷ xs) = AllByRecursion (λ y. is_gt (by_key x y) ≡ false) xs × IsAscending xs

  all-insert : (P : ValueTree → Type 0) (x : ValueTree) (ys : List ValueTree) → P x → AllByRecursion P ys
      → AllByRecursion P (insert_behind key x ys)
  all-insert P x [] one all = (one, tt)
  all-insert P x (y ∷ ys) one all = at (is_lt (by_key x y)) (all-insert P x ys one all.1)
    where
      at : (b : Bool) → AllByRecursion P (insert_behind key x ys) → AllByRecursion P (cond b (x ∷ y ∷ ys) (y ∷ insert_behind key x ys))
      at true rest = (one, (all.0, all.1))
      at false rest = (all.0, rest)

  below-not_above : (o : Ordering) → is_lt o ≡ true → is_gt o ≡ false
  below-not_above Less is = refl
  below-not_above Equal is = absurd (cc)
  below-not_above Greater is = absurd (cc)

  reversed-not_above : (o : Ordering) → is_lt o ≡ false → is_gt (ordering_reverse o) ≡ false
  reversed-not_above Less is = absurd (cc)
  reversed-not_above Equal is = refl
  reversed-not_above Greater is = refl

  not_below : (x y : ValueTree) → is_lt (by_key x y) ≡ false → is_gt (by_key y x) ≡ false
  not_below x y is = ap is_gt (by_key-total.antisymm y x) ∙ reversed-not_above (by_key x y) is

  all-above : (x y : ValueTree) (zs : List ValueTree) → is_gt (by_key x y) ≡ false → AllByRecursion (λ z. is_gt (by_key y z) ≡ false) zs
      → AllByRecursion (λ z. is_gt (by_key x z) ≡ false) zs
  all-above x y [] le all = tt
  all-above x y (z ∷ zs) le all = (upto by_key-total x y z le all.0, all-above x y zs le all.1)

  ascending-at : (x y : ValueTree) (ys : List ValueTree) (b : Bool) → b ≡ is_lt (by_key x y) → IsAscending (y ∷ ys)
      → IsAscending (insert_behind key x ys)
      → IsAscending (cond b (x ∷ y ∷ ys) (y ∷ insert_behind key x ys))
  ascending-at x y ys true is up rest =
      let le = below-not_above (by_key x y) (sym is) in
      ((le, all-above x y ys le up.0), up)
  ascending-at x y ys false is up rest = (all-insert (λ z. is_gt (by_key y z) ≡ false) x ys (not_below x y (sym is)) up.0, rest)

  insert-ascending : (x : ValueTree) (ys : List ValueTree) → IsAscending ys → IsAscending (insert_behind key x ys)
  insert-ascending x [] up = (tt, tt)
  insert-ascending x (y ∷ ys) up = ascending-at x y ys (is_lt (by_key x y)) refl up (insert-ascending x ys up.1)

  onto-ascending : (done xs : List ValueTree) → IsAscending done → IsAscending (sorted_onto key done xs)
  onto-ascending done [] up = up
  onto-ascending done (x ∷ xs) up = onto-ascending (insert_behind key x done) xs (insert-ascending x done up)

  reversed-not_below : (o : Ordering) → is_gt o ≡ false → is_lt (ordering_reverse o) ≡ false
  reversed-not_below Less is = refl
  reversed-not_below Equal is = refl
  reversed-not_below Greater is = absurd (cc)

  in-order : (xs : List ValueTree) → IsAscending xs → IsSortedByKey key order xs
  in-order [] up k d low high = absurd (omega (arith, high))
  in-order (x ∷ []) up k d low high = absurd (omega (arith, high))
  in-order (x ∷ y ∷ ys) up zero d low high = ap is_lt (by_key-total.antisymm y x) ∙ reversed-not_below (by_key x y) up.0.0
  in-order (x ∷ y ∷ ys) up (suc k) d low high =
      let next : suc k + 1 ≡ suc (k + 1) = omega arith in
      ap (λ n. is_lt (order (key (get_or (x ∷ y ∷ ys) n d)) (key (get_or (y ∷ ys) k d)))) next
      ∙ in-order (y ∷ ys) up.1 k d (omega arith) (omega (arith, high))

  pub sorted-in_order : (xs : List ValueTree) → IsSortedByKey key order (sorted key xs)
  sorted-in_order xs = in-order (sorted key xs) (onto-ascending [] xs tt)

  -- each value stands as often as before
  one-counted : (test : ValueTree → Bool) (x : ValueTree) (xs : List ValueTree) → count_by test (x ∷ xs)
      ≡ cond (test x) 1 0 + count_by test xs
  one-counted test x xs = sum_by-cons (λ y. cond (test y) 1 0) x xs

  counted-at : (test : ValueTree → Bool) (x y : ValueTree) (ys : List ValueTree) (b : Bool) → count_by test (insert_behind key x ys)
      ≡ count_by test (x ∷ ys)
      → count_by test (cond b (x ∷ y ∷ ys) (y ∷ insert_behind key x ys)) ≡ count_by test (x ∷ y ∷ ys)
  counted-at test x y ys true rest = refl
  counted-at test x y ys false rest =
      omega (
        arith,
        rest,
        one-counted test y (insert_behind key x ys),
        one-counted test x ys,
        one-counted test x (y ∷ ys),
        one-counted
            test y ys,
      )

  insert-counted : (test : ValueTree → Bool) (x : ValueTree) (ys : List ValueTree) → count_by test (insert_behind key x ys)
      ≡ count_by test (x ∷ ys)
  insert-counted test x [] = refl
  insert-counted test x (y ∷ ys) = counted-at test x y ys (is_lt (by_key x y)) (insert-counted test x ys)

  onto-counted : (test : ValueTree → Bool) (done xs : List ValueTree) → count_by test (sorted_onto key done xs)
      ≡ count_by test done + count_by test xs
  onto-counted test done [] = omega arith
  onto-counted test done (x ∷ xs) =
      omega (
        arith,
        onto-counted test (insert_behind key x done) xs,
        insert-counted test x done,
        one-counted test x done,
        one-counted
            test x xs,
      )

  pub sorted-counted : (xs : List ValueTree) (test : ValueTree → Bool) → count_by test (sorted key xs) ≡ count_by test xs
  sorted-counted xs test = omega (arith, onto-counted test [] xs)

  -- the items that tie with a key
  abbrev pub is_tied : ValueTree → ValueTree → Bool
  is_tied z x = not (is_lt (order z (key x))) && not (is_lt (order (key x) z))

  is-below : (o : Ordering) → is_lt o ≡ true → o ≡ Less
  is-below Less is = refl
  is-below Equal is = absurd (cc)
  is-below Greater is = absurd (cc)

  -- of two orderings neither of which is below, the one is equal
  tied-equal : (o : Ordering) → not (is_lt o) && not (is_lt (ordering_reverse o)) ≡ true → o ≡ Equal
  tied-equal Less is = absurd (cc)
  tied-equal Equal is = refl
  tied-equal Greater is = absurd (cc)

  is-equal : (z x : ValueTree) → is_tied z x ≡ true → order z (key x) ≡ Equal
  is-equal z x tied =
      tied-equal (order z (key x)) (ap (λ o. not (is_lt (order z (key x))) && not (is_lt o)) (sym (order-total.antisymm (key x) z)) ∙ tied)

  -- one above what ties doesn't tie
  above-apart : (z x y : ValueTree) → is_tied z x ≡ true → by_key x y ≡ Less → is_tied z y ≡ false
  above-apart z x y tied less =
      let lower : order z (key y) ≡ Less = order-total.congr z (key x) (key y) (is-equal z x tied) ∙ less in
      ap (λ o. not (is_lt o) && not (is_lt (order (key y) z))) lower

  below-through : (x y z : ValueTree) (o : Ordering) → o ≡ by_key y z → by_key x y ≡ Less → is_gt o ≡ false → by_key x z ≡ Less
  below-through x y z Less is less le = by_key-total.trans x y z less (sym is)
  below-through x y z Equal is less le =
      let back : by_key z y ≡ Equal = by_key-total.antisymm z y ∙ ap ordering_reverse (sym is) in
      by_key-total.antisymm x z ∙ ap ordering_reverse (by_key-total.congr z y x back) ∙ sym (by_key-total.antisymm x y) ∙ less
  below-through x y z Greater is less le = absurd (cc)

  none-tied : (z x : ValueTree) (ys : List ValueTree) → is_tied z x ≡ true → AllByRecursion (λ y. by_key x y ≡ Less) ys
      → filter (is_tied z) ys ≡ []
  none-tied z x [] tied above = refl
  none-tied z x (y ∷ ys) tied above =
      ap (λ b. cond b (y ∷ filter (is_tied z) ys) (filter (is_tied z) ys)) (above-apart z x y tied above.0) ∙ none-tied z x ys tied above.1

  all-below : (x y : ValueTree) (zs : List ValueTree) → by_key x y ≡ Less → AllByRecursion (λ z. is_gt (by_key y z) ≡ false) zs
      → AllByRecursion (λ z. by_key x z ≡ Less) zs
  all-below x y [] less all = tt
  all-below x y (z ∷ zs) less all = (below-through x y z (by_key y z) refl less all.0, all-below x y zs less all.1)

  tied-front : (z x y : ValueTree) (ys : List ValueTree) (b : Bool) → b ≡ is_tied z x → is_lt (by_key x y) ≡ true → IsAscending (y ∷ ys)
      → cond b (x ∷ filter (is_tied z) (y ∷ ys)) (filter (is_tied z) (y ∷ ys)) ≡ filter (is_tied z) (y ∷ ys) ++ cond b (x ∷ []) []
  tied-front z x y ys true tied lt up =
      let less = is-below (by_key x y) lt in
      let none = none-tied z x (y ∷ ys) (sym tied) (less, all-below x y ys less up.0) in
      ap (λ l. x ∷ l) none ∙ ap (λ l. l ++ x ∷ []) (sym none)
  tied-front z x y ys false tied lt up = sym (append-nil (filter (is_tied z) (y ∷ ys)))

  tied-behind : (y : ValueTree) (b : Bool) (rest tail : List ValueTree) → cond b (y ∷ (rest ++ tail)) (rest ++ tail)
      ≡ cond b (y ∷ rest) rest ++ tail
  tied-behind y true rest tail = refl
  tied-behind y false rest tail = refl

  tied-at : (z x y : ValueTree) (ys : List ValueTree) (b : Bool) → b ≡ is_lt (by_key x y) → IsAscending (y ∷ ys)
      → filter (is_tied z) (insert_behind key x ys) ≡ filter (is_tied z) ys ++ filter (is_tied z) (x ∷ [])
      → filter (is_tied z) (cond b (x ∷ y ∷ ys) (y ∷ insert_behind key x ys)) ≡ filter (is_tied z) (y ∷ ys) ++ filter (is_tied z) (x ∷ [])
  tied-at z x y ys true is up rest = tied-front z x y ys (is_tied z x) refl (sym is) up
  tied-at z x y ys false is up rest =
      ap (λ l. cond (is_tied z y) (y ∷ l) l) rest ∙ tied-behind y (is_tied z y) (filter (is_tied z) ys) (filter (is_tied z) (x ∷ []))

  insert-tied : (z x : ValueTree) (ys : List ValueTree) → IsAscending ys → filter (is_tied z) (insert_behind key x ys)
      ≡ filter (is_tied z) ys ++ filter (is_tied z) (x ∷ [])
  insert-tied z x [] up = refl
  insert-tied z x (y ∷ ys) up = tied-at z x y ys (is_lt (by_key x y)) refl up (insert-tied z x ys up.1)

  onto-tied : (z : ValueTree) (done xs : List ValueTree) → IsAscending done → filter (is_tied z) (sorted_onto key done xs)
      ≡ filter (is_tied z) done ++ filter (is_tied z) xs
  onto-tied z done [] up = sym (append-nil (filter (is_tied z) done))
  onto-tied z done (x ∷ xs) up =
      onto-tied z (insert_behind key x done) xs (insert-ascending x done up)
      ∙ ap (λ l. l ++ filter (is_tied z) xs) (insert-tied z x done up)
      ∙ append_assoc (filter (is_tied z) done) (filter (is_tied z) (x ∷ [])) (filter (is_tied z) xs)
      ∙ ap (λ l. filter (is_tied z) done ++ l) (joined (is_tied z x))
    where
      joined : (b : Bool) → cond b (x ∷ []) [] ++ filter (is_tied z) xs ≡ cond b (x ∷ filter (is_tied z) xs) (filter (is_tied z) xs)
      joined true = refl
      joined false = refl

  pub sorted-stable : (xs : List ValueTree) → IsStableByKey key order xs (sorted key xs)
  sorted-stable xs z = onto-tied (key z) [] xs tt

  -- the same at any key
  pub sorted-tied : (z : ValueTree) (xs : List ValueTree) → filter (is_tied z) (sorted key xs) ≡ filter (is_tied z) xs
  sorted-tied z xs = onto-tied z [] xs tt

  pub sorted-ascending : (xs : List ValueTree) → IsAscending (sorted key xs)
  sorted-ascending xs = onto-ascending [] xs tt

  -- what holds of each item holds of each sorted
  onto-all : (P : ValueTree → Type 0) (done xs : List ValueTree) → AllByRecursion P done → AllByRecursion P xs
      → AllByRecursion P (sorted_onto key done xs)
  onto-all P done [] all rest = all
  onto-all P done (x ∷ xs) all rest = onto-all P (insert_behind key x done) xs (all-insert P x done rest.0 all) rest.1

  pub sorted-all : (P : ValueTree → Type 0) (xs : List ValueTree) → AllByRecursion P xs → AllByRecursion P (sorted key xs)
  sorted-all P xs all = onto-all P [] xs tt all
