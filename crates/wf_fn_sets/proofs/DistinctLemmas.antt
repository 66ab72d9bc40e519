-- The first of the items that are equal, as a stable sort leaves them in front, and back at their places.
use Rattle.std.proofs.Common.{◌≡◌, ℕ, suc, ◌+◌, ◌<◌, ◌≤◌, List, [], ◌∷◌, length, map, get_or, refl, sym, ◌∙◌, ap, arith, cond, Bool, true}
use Rattle.std.proofs.Common.{false, ◌||◌, not, ◌&&◌, subst, true≢false}
use Rattle.std.proofs.lemmas.Bool.Decides.{nat_tests}
use Rattle.std.proofs.lemmas.Cmp.{on_total, nat_cmp_total, tied_itself}
use Rattle.std.proofs.lemmas.List.Elements.{All-from_recursion, recursion_from_All}
use Rattle.std.proofs.lemmas.List.Filters.{All-dedup}
use Rattle.std.proofs.lemmas.List.Sorted.{All-permutation}
use Rattle.std.specs.Cmp.{IsTotalOrder}
use Rattle.std.specs.List.{All, AllByRecursion, filter, dedup, dedup_from}
use Rattle.std.specs.List.Sorted.{IsPermutation, IsSortedByKey, IsStableByKey}
use Rattle.std.specs.Ordering.{is_lt, is_eq, is_gt, nat_cmp, ordering_reverse}
use Rattle.std.specs.declared.cmp.Ordering.{Ordering}
use Rattle.std.specs.declared.cmp.Ordering.TheVariants.{Less, Equal, Greater}
use Rattle.wf_val.specs.ValueOrder.{order}
use Rattle.wf_val.specs.ValueOrderLaws.{order-total, order-self, same_from_order}
use Rattle.wf_val.specs.ValueTree.{ValueTree}
use Rattle.wf_fn_list.specs.Membership.{is_among}
use Rattle.wf_fn_sets.specs.Places.{placed_from}
use Rattle.wf_fn_sets.specs.Sets.{distinct_after, distinct}
use Rattle.wf_fn_sets.proofs.Ascending as rows
use Rattle.wf_fn_list.proofs.MembershipLemmas.{equal-from_test}

-- the first of a list, as a list
abbrev first_of : {X : Type 0} → List X → List X
first_of [] = []
first_of (x ∷ xs) = x ∷ []

-- where one test passes nothing that another doesn't, it may come behind the other
filter-within : {X : Type 0} (p q : X → Bool) (xs : List X) → AllByRecursion (λ x. p x ≡ true → q x ≡ true) xs
    → filter p (filter q xs) ≡ filter p xs
filter-within p q [] all = refl
filter-within p q (x ∷ xs) all = at (p x) (q x) refl refl (filter-within p q xs all.1)
  where
    at : (a b : Bool) → a ≡ p x → b ≡ q x → filter p (filter q xs) ≡ filter p xs
        → filter p (cond b (x ∷ filter q xs) (filter q xs)) ≡ cond a (x ∷ filter p xs) (filter p xs)
    at true true is at_q rest = ap (λ c. cond c (x ∷ filter p (filter q xs)) (filter p (filter q xs))) (sym is) ∙ ap (λ l. x ∷ l) rest
    at true false is at_q rest = absurd (true≢false (sym (all.0 (sym is)) ∙ sym at_q))
    at false true is at_q rest = ap (λ c. cond c (x ∷ filter p (filter q xs)) (filter p (filter q xs))) (sym is) ∙ rest
    at false false is at_q rest = rest

or-false : (a b : Bool) → a ≡ false → a || b ≡ b
or-false true b is = absurd (cc)
or-false false b is = refl

equal-tied : (o : Ordering) → not (is_lt o) && not (is_lt (ordering_reverse o)) ≡ true → o ≡ Equal
equal-tied Less is = absurd (cc)
equal-tied Equal is = refl
equal-tied Greater is = absurd (cc)

module _ {E : Type 0} (place : E → ℕ) (value : E → ValueTree) where
  abbrev by_value : E → E → Ordering
  by_value x y = order (value x) (value y)

  value-total : IsTotalOrder by_value
  value-total = on_total value order-total

  abbrev pub by_place : E → E → Ordering
  by_place x y = nat_cmp (place x) (place y)

  pub place-total : IsTotalOrder by_place
  place-total = on_total place nat_cmp_total

  abbrev is_equal : E → E → Bool
  is_equal = rows.is_tied by_value value-total

  abbrev is_there : E → E → Bool
  is_there = rows.is_tied by_place place-total

  same-equal : (z x : E) → is_equal z x ≡ true → value z ≡ value x
  same-equal z x is =
      same_from_order (value z) (value x)
      (equal-tied (by_value z x) (ap (λ o. not (is_lt (by_value z x)) && not (is_lt o)) (sym (value-total.antisymm x z)) ∙ is))

  equal-same : (z x : E) → value z ≡ value x → is_equal z x ≡ true
  equal-same z x is =
      ap (λ t. not (is_lt (order (value z) t)) && not (is_lt (order t (value z)))) (sym is)
      ∙ ap (λ o. not (is_lt o) && not (is_lt o)) (order-self (value z))

  -- the first of each value, but none of those that stood before
  abbrev firsts : List ValueTree → List E → List E
  firsts before [] = []
  firsts before (x ∷ xs) = cond (is_among before (value x)) (firsts before xs) (x ∷ firsts (value x ∷ before) xs)

  firsts-distinct : (before : List ValueTree) (xs : List E) → map value (firsts before xs) ≡ distinct_after before (map value xs)
  firsts-distinct before [] = refl
  firsts-distinct before (x ∷ xs) = at (is_among before (value x)) (firsts-distinct before xs) (firsts-distinct (value x ∷ before) xs)
    where
      at : (b : Bool) → map value (firsts before xs) ≡ distinct_after before (map value xs)
          → map value (firsts (value x ∷ before) xs) ≡ distinct_after (value x ∷ before) (map value xs)
          → map value (cond b (firsts before xs) (x ∷ firsts (value x ∷ before) xs))
          ≡ cond b (distinct_after before (map value xs)) (value x ∷ distinct_after (value x ∷ before) (map value xs))
      at true passed kept = passed
      at false passed kept = ap (λ l. value x ∷ l) kept

  firsts-all : (P : E → Type 0) (before : List ValueTree) (xs : List E) → AllByRecursion P xs → AllByRecursion P (firsts before xs)
  firsts-all P before [] all = tt
  firsts-all P before (x ∷ xs) all =
      at (is_among before (value x)) (firsts-all P before xs all.1) (firsts-all P (value x ∷ before) xs all.1)
    where
      at : (b : Bool) → AllByRecursion P (firsts before xs) → AllByRecursion P (firsts (value x ∷ before) xs)
          → AllByRecursion P (cond b (firsts before xs) (x ∷ firsts (value x ∷ before) xs))
      at true passed kept = passed
      at false passed kept = (all.0, kept)

  firsts-ascending : (before : List ValueTree) (xs : List E) → rows.IsAscending by_place place-total xs
      → rows.IsAscending by_place place-total (firsts before xs)
  firsts-ascending before [] up = tt
  firsts-ascending before (x ∷ xs) up =
      at (is_among before (value x)) (firsts-ascending before xs up.1) (firsts-ascending (value x ∷ before) xs up.1)
    where
      at : (b : Bool) → rows.IsAscending by_place place-total (firsts before xs)
          → rows.IsAscending by_place place-total (firsts (value x ∷ before) xs)
          → rows.IsAscending by_place place-total (cond b (firsts before xs) (x ∷ firsts (value x ∷ before) xs))
      at true passed kept = passed
      at false passed kept = (firsts-all (λ y. is_gt (by_place x y) ≡ false) (value x ∷ before) xs up.0, kept)

  -- of the items that are equal to one, the first is among the firsts
  abbrev first_unless : Bool → List E → List E
  first_unless true xs = []
  first_unless false xs = first_of xs

  unless-known : (b : Bool) (xs : List E) → b ≡ true → first_unless b xs ≡ []
  unless-known true xs is = refl
  unless-known false xs is = absurd (cc)

  not-eq : (z x : E) → is_equal z x ≡ false → is_eq (by_value z x) ≡ false
  not-eq z x apart = at (is_eq (by_value z x)) refl
    where
      at : (b : Bool) → b ≡ is_eq (by_value z x) → b ≡ false
      at true is =
          absurd (true≢false (sym (equal-same z x (same_from_order (value z) (value x) (equal-from_test (by_value z x) (sym is)))) ∙ apart))
      at false is = refl

  firsts-first : (z : E) (before : List ValueTree) (xs : List E) → filter (is_equal z) (firsts before xs)
      ≡ first_unless (is_among before (value z)) (filter (is_equal z) xs)
  firsts-first z before [] = empty (is_among before (value z))
    where
      empty : (b : Bool) → [] ≡ first_unless b []
      empty true = refl
      empty false = refl
  firsts-first z before (x ∷ xs) =
      at (is_among before (value x)) (is_equal z x) refl refl (firsts-first z before xs) (firsts-first z (value x ∷ before) xs)
    where
      at : (b t : Bool) → b ≡ is_among before (value x) → t ≡ is_equal z x
          → filter (is_equal z) (firsts before xs) ≡ first_unless (is_among before (value z)) (filter (is_equal z) xs)
          → filter (is_equal z) (firsts (value x ∷ before) xs)
          ≡ first_unless (is_among (value x ∷ before) (value z)) (filter (is_equal z) xs)
          → filter (is_equal z) (cond b (firsts before xs) (x ∷ firsts (value x ∷ before) xs))
          ≡ first_unless (is_among before (value z)) (cond t (x ∷ filter (is_equal z) xs) (filter (is_equal z) xs))
      at true true known tied passed kept =
          let there = ap (is_among before) (same-equal z x (sym tied)) ∙ sym known in
          passed ∙ unless-known (is_among before (value z)) (filter (is_equal z) xs) there
          ∙ sym (unless-known (is_among before (value z)) (x ∷ filter (is_equal z) xs) there)
      at true false known tied passed kept = passed
      at false true known tied passed kept =
          let same = same-equal z x (sym tied) in
          let there : is_among (value x ∷ before) (value z) ≡ true =
          ap (λ t. is_eq (order (value z) t) || is_among before (value z)) (sym same)
          ∙ ap (λ o. is_eq o || is_among before (value z)) (order-self (value z)) in
          let rest = filter (is_equal z) (firsts (value x ∷ before) xs) in
          ap (λ c. cond c (x ∷ rest) rest) (sym tied)
          ∙ ap (λ l. x ∷ l) (kept ∙ unless-known (is_among (value x ∷ before) (value z)) (filter (is_equal z) xs) there)
          ∙ ap (λ c. first_unless c (x ∷ filter (is_equal z) xs)) (known ∙ ap (is_among before) (sym same))
      at false false known tied passed kept =
          let rest = filter (is_equal z) (firsts (value x ∷ before) xs) in
          ap (λ c. cond c (x ∷ rest) rest) (sym tied)
          ∙ kept
          ∙ ap (λ c. first_unless c (filter (is_equal z) xs))
          (or-false (is_eq (by_value z x)) (is_among before (value z)) (not-eq z x (sym tied)))

  -- and of those in order, what is left of a run is its first
  abbrev pub is_same : E → E → Bool
  is_same x k = is_eq (by_value x k)

  first-of_one : (b : Bool) (k : E) → cond b (k ∷ []) [] ≡ first_of (cond b (k ∷ []) [])
  first-of_one true k = refl
  first-of_one false k = refl

  none-equal : (z x k : E) (ws : List E) → value z ≡ value k → is_same x k ≡ false → is_gt (by_value k x) ≡ false
      → AllByRecursion (λ w. is_gt (by_value x w) ≡ false) ws → filter (is_equal z) ws ≡ []
  none-equal z x k [] same apart low up = refl
  none-equal z x k (w ∷ ws) same apart low up =
      at (is_equal z w) refl (none-equal z x k ws same apart low up.1)
    where
      at : (b : Bool) → b ≡ is_equal z w → filter (is_equal z) ws ≡ [] → cond b (w ∷ filter (is_equal z) ws) (filter (is_equal z) ws) ≡ []
      at true is rest =
          let back : value w ≡ value k = sym (same-equal z w (sym is)) ∙ same in
          let high : is_gt (by_value x k) ≡ false = ap (λ t. is_gt (order (value x) t)) (sym back) ∙ up.0 in
          let tied = same-equal x k (rows.tied-between by_value value-total x k high low) in
          absurd (true≢false (sym (ap (λ t. is_eq (order (value x) t)) (sym tied) ∙ ap is_eq (order-self (value x))) ∙ apart))
      at false is rest = rest

  runs-first : (z k : E) (xs : List E) → rows.IsAscending by_value value-total (k ∷ xs)
      → filter (is_equal z) (dedup_from is_same k xs) ≡ first_of (filter (is_equal z) (k ∷ xs))
  runs-first z k [] up = first-of_one (is_equal z k) k
  runs-first z k (x ∷ xs) up =
      at (is_same x k) (is_equal z k) refl refl (runs-first z k xs (up.0.1, up.1.1)) (runs-first z x xs up.1)
    where
      at : (s t : Bool) → s ≡ is_same x k → t ≡ is_equal z k
          → filter (is_equal z) (dedup_from is_same k xs) ≡ first_of (filter (is_equal z) (k ∷ xs))
          → filter (is_equal z) (dedup_from is_same x xs) ≡ first_of (filter (is_equal z) (x ∷ xs))
          → filter (is_equal z) (cond s (dedup_from is_same k xs) (k ∷ dedup_from is_same x xs))
          ≡ first_of (cond t (k ∷ filter (is_equal z) (x ∷ xs)) (filter (is_equal z) (x ∷ xs)))
      at true true is tied on next =
          on ∙ ap (λ c. first_of (cond c (k ∷ filter (is_equal z) xs) (filter (is_equal z) xs))) (sym tied)
      at true false is tied on next =
          let same : value x ≡ value k = same_from_order (value x) (value k) (equal-from_test (by_value x k) (sym is)) in
          let apart : is_equal z x ≡ false =
          ap (λ t. not (is_lt (order (value z) t)) && not (is_lt (order t (value z)))) same ∙ sym tied in
          on ∙ ap (λ c. first_of (cond c (k ∷ filter (is_equal z) xs) (filter (is_equal z) xs))) (sym tied)
          ∙ ap (λ c. first_of (cond c (x ∷ filter (is_equal z) xs) (filter (is_equal z) xs))) (sym apart)
      at false true is tied on next =
          let none = none-equal z x k (x ∷ xs) (same-equal z k (sym tied)) (sym is) up.0.0
          (ap is_gt (tied_itself value-total x), up.1.0) in
          let rest = filter (is_equal z) (dedup_from is_same x xs) in
          ap (λ c. cond c (k ∷ rest) rest) (sym tied)
          ∙ ap (λ l. k ∷ l) (next ∙ ap first_of none)
      at false false is tied on next =
          let rest = filter (is_equal z) (dedup_from is_same x xs) in
          ap (λ c. cond c (k ∷ rest) rest) (sym tied)
          ∙ next

  dedup-first : (z : E) (xs : List E) → rows.IsAscending by_value value-total xs
      → filter (is_equal z) (dedup is_same xs) ≡ first_of (filter (is_equal z) xs)
  dedup-first z [] up = refl
  dedup-first z (x ∷ xs) up = runs-first z x xs up

  -- items at their places in a list of values
  abbrev IsAt : List ValueTree → E → Type 0
  IsAt values e = (d : ValueTree) → value e ≡ get_or values (place e) d

  there-place : (z e : E) → is_there z e ≡ true → place z ≡ place e
  there-place z e is = grind (arith, nat_tests)

  there-equal : (values : List ValueTree) (z e : E) → IsAt values z → IsAt values e → is_there z e ≡ true → is_equal z e ≡ true
  there-equal values z e at_z at_e is =
      equal-same z e (at_z (value z) ∙ ap (λ n. get_or values n (value z)) (there-place z e is) ∙ sym (at_e (value z)))

  there-alike : (values : List ValueTree) (xs ys : List E) (z : E) → IsAt values z → AllByRecursion (IsAt values) xs
      → AllByRecursion (IsAt values) ys → filter (is_equal z) xs ≡ filter (is_equal z) ys → filter (is_there z) xs ≡ filter (is_there z) ys
  there-alike values xs ys z at_z at_xs at_ys alike =
      sym (filter-within (is_there z) (is_equal z) xs (rows.all-from _ _ xs (λ e. there-equal values z e at_z) at_xs))
      ∙ ap (filter (is_there z)) alike
      ∙ filter-within (is_there z) (is_equal z) ys (rows.all-from _ _ ys (λ e. there-equal values z e at_z) at_ys)

  -- items sorted by value, of which the first of each run goes back to its place
  distinct-sorted : (values : List ValueTree) (items moved ones back : List E) → AllByRecursion (IsAt values) items
      → rows.IsAscending by_place place-total items
      → IsPermutation items moved → IsSortedByKey value order moved → IsStableByKey value order items moved
      → ones ≡ dedup is_same moved → IsPermutation ones back → IsSortedByKey place nat_cmp back → IsStableByKey place nat_cmp ones back
      → map value back ≡ distinct (map value items)
  distinct-sorted values items moved ones back at_items up perm in_order stable are perm_back in_place stable_back =
      let at_moved = All-permutation (IsAt values) items moved perm (All-from_recursion (IsAt values) items at_items) in
      let all_ones = subst (All (IsAt values)) (sym are) (All-dedup is_same (IsAt values) moved at_moved) in
      let at_ones = recursion_from_All (IsAt values) ones all_ones in
      let at_back = recursion_from_All (IsAt values) back (All-permutation (IsAt values) ones back perm_back all_ones) in
      let at_firsts = firsts-all (IsAt values) [] items at_items in
      let alike : (z : E) → IsAt values z → rows.StandAlike by_place place-total back (firsts [] items) z =
      λ z at_z. stable_back z
      ∙ there-alike values ones (firsts [] items) z at_z at_ones at_firsts
      (ap (filter (is_equal z)) are ∙ dedup-first z moved (rows.ascending-from_sorted by_value value-total moved in_order)
      ∙ ap first_of (stable z) ∙ sym (firsts-first z [] items)) in
      ap (map value) (rows.same-from_ascending by_place place-total back (firsts [] items)
      (rows.ascending-from_sorted by_place place-total back in_place) (firsts-ascending [] items up)
      (rows.all-from _ _ back alike at_back) (rows.all-from _ _ (firsts [] items) alike at_firsts))
      ∙ firsts-distinct [] items

  -- what items with their places are
  abbrev pub pair : E → ℕ × ValueTree
  pair e = (place e, value e)

  beyond : (n : ℕ) (items : List E) (ts : List ValueTree) → map pair items ≡ placed_from n ts → AllByRecursion (λ e. n ≤ place e) items
  beyond n [] ts is = tt
  beyond n (e ∷ es) [] is = absurd (cc)
  beyond n (e ∷ es) (t ∷ ts) is = (
    omega (arith, ap (λ p. p.0) (rows.first-same (pair e) (n, t) (map pair es) (placed_from (n + 1) ts) is)),
    rows.all-from (λ f. n + 1 ≤ place f) (λ f. n ≤ place f) es (λ f le. omega (arith, le))
        (beyond (n + 1) es ts (rows.rest-same (pair e) (n, t) (map pair es) (placed_from (n + 1) ts) is)),
  )

  not-above : (m n k : ℕ) → m ≡ n → n + 1 ≤ k → is_gt (nat_cmp m k) ≡ false
  not-above m n k is le = grind (arith, nat_tests)

  placed-ascending : (n : ℕ) (items : List E) (ts : List ValueTree) → map pair items ≡ placed_from n ts
      → rows.IsAscending by_place place-total items
  placed-ascending n [] ts is = tt
  placed-ascending n (e ∷ es) [] is = absurd (cc)
  placed-ascending n (e ∷ es) (t ∷ ts) is =
      let at = ap (λ p. p.0) (rows.first-same (pair e) (n, t) (map pair es) (placed_from (n + 1) ts) is) in
      let rest = rows.rest-same (pair e) (n, t) (map pair es) (placed_from (n + 1) ts) is in (
        rows.all-from (λ f. n + 1 ≤ place f) (λ f. is_gt (by_place e f) ≡ false) es (λ f le. not-above (place e) n (place f) at le)
            (beyond (n + 1) es ts rest),
        placed-ascending (n + 1) es ts rest,
      )

  placed-seen : (look : ℕ → ValueTree → ValueTree) (n : ℕ) (items : List E) (ts : List ValueTree)
      → ((j : ℕ) (d : ValueTree) → j < length ts → get_or ts j d ≡ look (n + j) d) → map pair items ≡ placed_from n ts
      → AllByRecursion (λ e. (d : ValueTree) → value e ≡ look (place e) d) items
  placed-seen look n [] ts seen is = tt
  placed-seen look n (e ∷ es) [] seen is = absurd (cc)
  placed-seen look n (e ∷ es) (t ∷ ts) seen is =
      let first = rows.first-same (pair e) (n, t) (map pair es) (placed_from (n + 1) ts) is in
      let at : n + 0 ≡ place e = omega (arith, ap (λ p. p.0) first) in
      let next : (j : ℕ) → n + suc j ≡ (n + 1) + j = λ j. omega arith in (
        λ d. ap (λ p. p.1) first ∙ seen 0 d (omega arith) ∙ ap (λ k. look k d) at,
        placed-seen look (n + 1) es ts (λ j d lt. seen (suc j) d (omega (arith, lt)) ∙ ap (λ k. look k d) (next j))
            (rows.rest-same (pair e) (n, t) (map pair es) (placed_from (n + 1) ts) is),
      )

  placed-at : (values : List ValueTree) (items : List E) → map pair items ≡ placed_from 0 values → AllByRecursion (IsAt values) items
  placed-at values items is =
      let from : (j : ℕ) → j ≡ 0 + j = λ j. omega arith in
      placed-seen (get_or values) 0 items values (λ j d lt. ap (λ k. get_or values k d) (from j)) is

  pair-values : (n : ℕ) (items : List E) (ts : List ValueTree) → map pair items ≡ placed_from n ts → map value items ≡ ts
  pair-values n [] [] is = refl
  pair-values n [] (t ∷ ts) is = absurd (cc)
  pair-values n (e ∷ es) [] is = absurd (cc)
  pair-values n (e ∷ es) (t ∷ ts) is =
      ap (λ p. p.1 ∷ map value es) (rows.first-same (pair e) (n, t) (map pair es) (placed_from (n + 1) ts) is)
      ∙ ap (λ l. t ∷ l) (pair-values (n + 1) es ts (rows.rest-same (pair e) (n, t) (map pair es) (placed_from (n + 1) ts) is))

  -- values with their places, of which the first of each run goes back to its place, are the distinct values
  pub distinct-placed : (values : List ValueTree) (items moved ones back : List E) → map pair items ≡ placed_from 0 values
      → IsPermutation items moved → IsSortedByKey value order moved → IsStableByKey value order items moved
      → ones ≡ dedup is_same moved → IsPermutation ones back → IsSortedByKey place nat_cmp back → IsStableByKey place nat_cmp ones back
      → map value back ≡ distinct values
  distinct-placed values items moved ones back is perm in_order stable are perm_back in_place stable_back =
      distinct-sorted values items moved ones back (placed-at values items is) (placed-ascending 0 items values is) perm in_order stable
      are perm_back in_place stable_back
      ∙ ap distinct (pair-values 0 items values is)
