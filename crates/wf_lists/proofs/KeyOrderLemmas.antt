-- Where a key stands in a list in the order of keys, what an edit there makes of the list, and what is found afterwards.
use Rattle.std.proofs.Common.{◌≡◌, Bool, ℕ, zero, suc, ◌<◌, ◌≤◌, List, [], ◌∷◌, ◌++◌, length, get_or, slice_get, set, map, map-id, insert, remove, Option, Some, None, option_map, Ordering, Less, Equal, Greater, Result, Ok, Err, IfOk, IfErr, HoldsAt, cond, true, false, is_eq, ◌||◌, refl, sym, ap, ◌∙◌, subst, arith}
use Rattle.std.specs.Cmp.{IsTotalOrder}
use Rattle.std.specs.BTreeSet.{insert_key}
use Rattle.std.specs.List.{AllByRecursion, AllWithin, list_any}
use Rattle.std.specs.List.Sorted.{IsSearchInRange, IsBinarySearchResult, IsNonDecreasingBy, IsPartitionPoint}
use Rattle.std.specs.Ordering.{match_ordering, ordering_reverse, ordering_index}
use Rattle.std.proofs.lemmas.Cmp.{tied_itself}
use Rattle.std.proofs.lemmas.Option.{none-some}
use Rattle.wf_lists.specs.KeyOrder.{IsInKeyOrder, IsAboveKeys, find_key, without_key, put_key, IsKeyPlace, IsKeyGap}

module _ {K : Type 0} {cmp : K → K → Ordering} (total : IsTotalOrder cmp) where
  reversed : (k l : K) (o : Ordering) → cmp k l ≡ o → cmp l k ≡ ordering_reverse o
  reversed k l o is = total.antisymm l k ∙ ap ordering_reverse is

  -- a key that ties with another compares as the other does, on either side
  tied_left : (k l m : K) → cmp k l ≡ Equal → cmp k m ≡ cmp l m
  tied_left k l m tie = total.congr k l m tie

  tied_right : (k l m : K) → cmp k l ≡ Equal → cmp m k ≡ cmp m l
  tied_right k l m tie = total.antisymm m k ∙ ap ordering_reverse (tied_left k l m tie) ∙ sym (total.antisymm m l)

  module _ {X : Type 0} (key : X → K) where
    -- a list in order stays so without a key
    pub all-without : (P : X → Type 0) (k : K) (xs : List X) → AllByRecursion P xs → AllByRecursion P (without_key cmp key k xs)
    all-without P k [] all = tt
    all-without P k (x ∷ xs) all =
        elim (is_eq (cmp k (key x))) as (λ b. AllByRecursion P (cond b xs (x ∷ without_key cmp key k xs))) [
          | true ↦ all.1
          | false ↦ (all.0, all-without P k xs all.1)
        ]

    pub in_order-without : (k : K) (xs : List X) → IsInKeyOrder cmp key xs → IsInKeyOrder cmp key (without_key cmp key k xs)
    in_order-without k [] order = tt
    in_order-without k (x ∷ xs) order =
        elim (is_eq (cmp k (key x))) as (λ b. IsInKeyOrder cmp key (cond b xs (x ∷ without_key cmp key k xs))) [
          | true ↦ order.1
          | false ↦ (all-without _ k xs order.0, in_order-without k xs order.1)
        ]

    -- and with a further item in its place
    pub all-put : (P : X → Type 0) (x : X) (ys : List X) → P x → AllByRecursion P ys → AllByRecursion P (put_key cmp key x ys)
    all-put P x [] holds all = (holds, tt)
    all-put P x (y ∷ ys) holds all =
        elim (cmp (key x) (key y)) as (λ o. AllByRecursion P (match_ordering o (x ∷ y ∷ ys) (x ∷ ys) (y ∷ put_key cmp key x ys))) [
          | Less ↦ (holds, all)
          | Equal ↦ (holds, all.1)
          | Greater ↦ (all.0, all-put P x ys holds all.1)
        ]

    below : (k l : K) (xs : List X) → cmp k l ≡ Less → AllByRecursion (λ y. cmp l (key y) ≡ Less) xs
        → AllByRecursion (λ y. cmp k (key y) ≡ Less) xs
    below k l [] less all = tt
    below k l (x ∷ xs) less all = (total.trans k l (key x) less all.0, below k l xs less all.1)

    below-tied : (k l : K) (xs : List X) → cmp k l ≡ Equal → AllByRecursion (λ y. cmp l (key y) ≡ Less) xs
        → AllByRecursion (λ y. cmp k (key y) ≡ Less) xs
    below-tied k l [] tie all = tt
    below-tied k l (x ∷ xs) tie all = (tied_left k l (key x) tie ∙ all.0, below-tied k l xs tie all.1)

    in_order-put_at : (x y : X) (ys : List X) (o : Ordering) → cmp (key x) (key y) ≡ o → IsInKeyOrder cmp key (y ∷ ys)
        → IsInKeyOrder cmp key (put_key cmp key x ys)
        → IsInKeyOrder cmp key (match_ordering o (x ∷ y ∷ ys) (x ∷ ys) (y ∷ put_key cmp key x ys))
    in_order-put_at x y ys Less is order later = ((is, below (key x) (key y) ys is order.0), order)
    in_order-put_at x y ys Equal is order later = (below-tied (key x) (key y) ys is order.0, order.1)
    in_order-put_at x y ys Greater is order later = (all-put _ x ys (reversed (key x) (key y) Greater is) order.0, later)

    pub in_order-put : (x : X) (ys : List X) → IsInKeyOrder cmp key ys → IsInKeyOrder cmp key (put_key cmp key x ys)
    in_order-put x [] order = (tt, tt)
    in_order-put x (y ∷ ys) order = in_order-put_at x y ys _ refl order (in_order-put x ys order.1)

    -- and with a further item behind the others
    pub all-append : (P : X → Type 0) (x : X) (ys : List X) → P x → AllByRecursion P ys → AllByRecursion P (ys ++ x ∷ [])
    all-append P x [] holds all = (holds, tt)
    all-append P x (y ∷ ys) holds all = (all.0, all-append P x ys holds all.1)

    pub in_order-append : (x : X) (ys : List X) → IsInKeyOrder cmp key ys → IsAboveKeys cmp key (key x) ys
        → IsInKeyOrder cmp key (ys ++ x ∷ [])
    in_order-append x [] order above = (tt, tt)
    in_order-append x (y ∷ ys) order above =
        (all-append (λ z. cmp (key y) (key z) ≡ Less) x ys above.0 order.0, in_order-append x ys order.1 above.1)

    find-below : (k : K) (xs : List X) → AllByRecursion (λ y. cmp k (key y) ≡ Less) xs → find_key cmp key k xs ≡ None
    find-below k [] all = refl
    find-below k (x ∷ xs) all = rw all.0 (find-below k xs all.1)

    without-below : (k : K) (xs : List X) → AllByRecursion (λ y. cmp k (key y) ≡ Less) xs → without_key cmp key k xs ≡ xs
    without-below k [] all = refl
    without-below k (x ∷ xs) all = rw all.0 (ap (λ ys. x ∷ ys) (without-below k xs all.1))

    all-at : (P : X → Type 0) (xs : List X) → AllByRecursion P xs → (n : ℕ) (x : X) → slice_get xs n ≡ Some x → P x
    all-at P [] all n x at = absurd (none-some x at)
    all-at P (y ∷ ys) all zero x at = let same : y ≡ x = Prim.cc in subst P same all.0
    all-at P (y ∷ ys) all (suc n) x at = all-at P ys all.1 n x at

    -- what stands at a place is found by its key
    pub find-own : (xs : List X) → IsInKeyOrder cmp key xs → (n : ℕ) (x : X) → slice_get xs n ≡ Some x
        → find_key cmp key (key x) xs ≡ Some x
    find-own [] order n x at = absurd (none-some x at)
    find-own (y ∷ ys) order zero x at =
        let same : y ≡ x = Prim.cc in
        rw (← same, tied_itself total (key y)) refl
    find-own (y ∷ ys) order (suc n) x at =
        rw (reversed (key y) (key x) Less (all-at (λ z. cmp (key y) (key z) ≡ Less) ys order.0 n x at)) (find-own ys order.1 n x at)

    -- what is found after an edit
    twice : (b : Bool) (p q : X) (o : Option X) → cond b (Some p) o ≡ cond b (Some p) (cond b (Some q) o)
    twice true p q o = refl
    twice false p q o = refl

    swap : (k : K) (x y : X) (o : Option X) (p : Ordering) → cmp (key y) (key x) ≡ Greater → cmp k (key x) ≡ p
        → cond (is_eq p) (Some x) (cond (is_eq (cmp k (key y))) (Some y) o)
        ≡ cond (is_eq (cmp k (key y))) (Some y) (cond (is_eq p) (Some x) o)
    swap k x y o Less is e = refl
    swap k x y o Greater is e = refl
    swap k x y o Equal is e = rw (tied_left k (key x) (key y) e ∙ reversed (key y) (key x) Greater is) refl

    put_one : (k : K) (x y : X) (xs : List X) (o : Ordering) → cmp (key y) (key x) ≡ o
        → find_key cmp key k (put_key cmp key y xs) ≡ cond (is_eq (cmp k (key y))) (Some y) (find_key cmp key k xs)
        → find_key cmp key k (match_ordering o (y ∷ x ∷ xs) (y ∷ xs) (x ∷ put_key cmp key y xs))
        ≡ cond (is_eq (cmp k (key y))) (Some y) (cond (is_eq (cmp k (key x))) (Some x) (find_key cmp key k xs))
    put_one k x y xs Less is later = refl
    put_one k x y xs Equal is later = rw (tied_right (key y) (key x) k is) (twice (is_eq (cmp k (key x))) y x (find_key cmp key k xs))
    put_one k x y xs Greater is later = ap (cond (is_eq (cmp k (key x))) (Some x)) later
        ∙ swap k x y (find_key cmp key k xs) (cmp k (key x)) is refl

    pub find-put : (k : K) (y : X) (xs : List X)
        → find_key cmp key k (put_key cmp key y xs) ≡ cond (is_eq (cmp k (key y))) (Some y) (find_key cmp key k xs)
    find-put k y [] = refl
    find-put k y (x ∷ xs) = put_one k x y xs (cmp (key y) (key x)) refl (find-put k y xs)

    nothing : (b : Bool) → None ≡ cond {A = Option X} b None None
    nothing true = refl
    nothing false = refl

    without_one : (k q : K) (x : X) (xs : List X) → AllByRecursion (λ y. cmp (key x) (key y) ≡ Less) xs
        → find_key cmp key q (without_key cmp key k xs) ≡ cond (is_eq (cmp q k)) None (find_key cmp key q xs)
        → (b c : Ordering) → cmp k (key x) ≡ b → cmp q k ≡ c
        → find_key cmp key q (cond (is_eq b) xs (x ∷ without_key cmp key k xs))
        ≡ cond (is_eq c) None (cond (is_eq (cmp q (key x))) (Some x) (find_key cmp key q xs))
    without_one k q x xs above later Equal Equal e h = find-below q xs (below-tied q (key x) xs (tied_left q k (key x) h ∙ e) above)
    without_one k q x xs above later Equal Less e h = rw (sym (tied_right k (key x) q e) ∙ h) refl
    without_one k q x xs above later Equal Greater e h = rw (sym (tied_right k (key x) q e) ∙ h) refl
    without_one k q x xs above later Less Equal e h = rw (tied_left q k (key x) h ∙ e) (later ∙ rw h refl)
    without_one k q x xs above later Less Less e h = ap (cond (is_eq (cmp q (key x))) (Some x)) (later ∙ rw h refl)
    without_one k q x xs above later Less Greater e h = ap (cond (is_eq (cmp q (key x))) (Some x)) (later ∙ rw h refl)
    without_one k q x xs above later Greater Equal e h = rw (tied_left q k (key x) h ∙ e) (later ∙ rw h refl)
    without_one k q x xs above later Greater Less e h = ap (cond (is_eq (cmp q (key x))) (Some x)) (later ∙ rw h refl)
    without_one k q x xs above later Greater Greater e h = ap (cond (is_eq (cmp q (key x))) (Some x)) (later ∙ rw h refl)

    pub find-without : (k q : K) (xs : List X) → IsInKeyOrder cmp key xs
        → find_key cmp key q (without_key cmp key k xs) ≡ cond (is_eq (cmp q k)) None (find_key cmp key q xs)
    find-without k q [] order = nothing (is_eq (cmp q k))
    find-without k q (x ∷ xs) order = without_one k q x xs order.0 (find-without k q xs order.1) (cmp k (key x)) (cmp q k) refl refl

  -- of a list that is `map f xs`, as a struct's items are seen
  module _ {X Y : Type 0} (key : X → K) (f : Y → X) where
    pub find-at_place : (k : K) (xs : List Y) (i : ℕ) (d : Y) → IsKeyPlace cmp key k (map f xs) i
        → find_key cmp key k (map f xs) ≡ Some (f (get_or xs i d))
    find-at_place k [] i d place = absurd place
    find-at_place k (x ∷ xs) zero d place = rw place refl
    find-at_place k (x ∷ xs) (suc i) d place = rw place.0 (find-at_place k xs i d place.1)

    pub find-in_gap : (k : K) (xs : List Y) (i : ℕ) → IsKeyGap cmp key k (map f xs) i → find_key cmp key k (map f xs) ≡ None
    find-in_gap k [] i gap = refl
    find-in_gap k (x ∷ xs) zero gap = find-below key k (map f (x ∷ xs)) gap
    find-in_gap k (x ∷ xs) (suc i) gap = rw gap.0 (find-in_gap k xs i gap.1)

    -- an item is written over
    pub put-at_place : (y : Y) (xs : List Y) (i : ℕ) → IsKeyPlace cmp key (key (f y)) (map f xs) i
        → put_key cmp key (f y) (map f xs) ≡ map f (set xs i y)
    put-at_place y [] i place = absurd place
    put-at_place y (x ∷ xs) zero place = rw place refl
    put-at_place y (x ∷ xs) (suc i) place = rw place.0 (ap (λ zs. f x ∷ zs) (put-at_place y xs i place.1))

    -- an item is put in its gap
    pub put-in_gap : (y : Y) (xs : List Y) (i : ℕ) → IsKeyGap cmp key (key (f y)) (map f xs) i
        → put_key cmp key (f y) (map f xs) ≡ map f (insert xs i y)
    put-in_gap y [] i gap = rw gap refl
    put-in_gap y (x ∷ xs) zero gap = rw gap.0 refl
    put-in_gap y (x ∷ xs) (suc i) gap = rw gap.0 (ap (λ zs. f x ∷ zs) (put-in_gap y xs i gap.1))

    -- an item is taken out
    pub without-at_place : (k : K) (xs : List Y) (i : ℕ) → IsKeyPlace cmp key k (map f xs) i
        → without_key cmp key k (map f xs) ≡ map f (remove xs i)
    without-at_place k [] i place = absurd place
    without-at_place k (x ∷ xs) zero place = rw place refl
    without-at_place k (x ∷ xs) (suc i) place = rw place.0 (ap (λ zs. f x ∷ zs) (without-at_place k xs i place.1))

    pub without-in_gap : (k : K) (xs : List Y) (i : ℕ) → IsKeyGap cmp key k (map f xs) i → without_key cmp key k (map f xs) ≡ map f xs
    without-in_gap k [] i gap = refl
    without-in_gap k (x ∷ xs) zero gap = without-below key k (map f (x ∷ xs)) gap
    without-in_gap k (x ∷ xs) (suc i) gap = rw gap.0 (ap (λ zs. f x ∷ zs) (without-in_gap k xs i gap.1))

    all_at : (P : X → Type 0) (xs : List Y) (j : ℕ) (d : Y) → j < length xs → AllByRecursion P (map f xs) → P (f (get_or xs j d))
    all_at P [] j d lt all = absurd (omega arith)
    all_at P (x ∷ xs) zero d lt all = all.0
    all_at P (x ∷ xs) (suc j) d lt all = all_at P xs j d (omega arith) all.1

    index_rises : (a b k : K) (o : Ordering) → cmp b k ≡ o → cmp a b ≡ Less → ordering_index (cmp a k) ≤ ordering_index o
    index_rises a b k Less is less = rw (total.trans a b k less is) (omega arith)
    index_rises a b k Equal is less = rw (sym (tied_right b k a is), less) (omega arith)
    index_rises a b k Greater is less =
        elim (cmp a k) as (λ o. ordering_index o ≤ 2) [ Less ↦ omega arith | Equal ↦ omega arith | Greater ↦ omega arith ]

    rises : (k : K) (xs : List Y) → IsInKeyOrder cmp key (map f xs) → IsNonDecreasingBy (λ y. ordering_index (cmp (key (f y)) k)) xs
    rises k [] order i j d le lt = absurd (omega arith)
    rises k (x ∷ xs) order zero zero d le lt = omega arith
    rises k (x ∷ xs) order zero (suc j) d le lt =
        index_rises (key (f x)) (key (f (get_or xs j d))) k _ refl
        (all_at (λ y. cmp (key (f x)) (key y) ≡ Less) xs j d (omega arith) order.0)
    rises k (x ∷ xs) order (suc i) zero d le lt = absurd (omega arith)
    rises k (x ∷ xs) order (suc i) (suc j) d le lt = rises k xs order.1 i j d (omega arith) (omega arith)

    place_from_found : (k : K) (xs : List Y) (i : ℕ) → IsInKeyOrder cmp key (map f xs) → i < length xs
        → HoldsAt (λ y. cmp (key (f y)) k ≡ Equal) xs i → IsKeyPlace cmp key k (map f xs) i
    place_from_found k [] i order lt holds = absurd (omega arith)
    place_from_found k (x ∷ xs) zero order lt holds = reversed (key (f x)) k Equal (holds x)
    place_from_found k (x ∷ xs) (suc i) order lt holds =
        let less = all_at (λ y. cmp (key (f x)) (key y) ≡ Less) xs i x (omega arith) order.0 in
        let under = sym (tied_right (key (f (get_or xs i x))) k (key (f x)) (holds x)) ∙ less in
        (reversed (key (f x)) k Less under, place_from_found k xs i order.1 (omega arith) holds)

    all_above : (k : K) (xs : List Y) → AllWithin (λ y. cmp (key (f y)) k ≡ Greater) xs 0 (length xs)
        → AllByRecursion (λ y. cmp k (key y) ≡ Less) (map f xs)
    all_above k [] above = tt
    all_above k (x ∷ xs) above =
        let here = reversed (key (f x)) k Greater (above 0 x (omega arith) (omega arith)) in
        (here, all_above k xs (λ j d le lt. above (suc j) d (omega arith) (omega arith)))

    gap_from_absent : (k : K) (xs : List Y) (i : ℕ) → i ≤ length xs
        → IsPartitionPoint (λ y. cmp (key (f y)) k ≡ Less) (λ y. cmp (key (f y)) k ≡ Greater) xs i → IsKeyGap cmp key k (map f xs) i
    gap_from_absent k [] i le parted = omega arith
    gap_from_absent k (x ∷ xs) zero le parted = all_above k (x ∷ xs) parted.1
    gap_from_absent k (x ∷ xs) (suc i) le parted = (
      reversed (key (f x)) k Less (parted.0 0 x (omega arith) (omega arith)),
      gap_from_absent k xs i (omega arith)
          ((λ j d le lt. parted.0 (suc j) d (omega arith) (omega arith)), (λ j d le lt. parted.1 (suc j) d (omega arith) (omega arith))),
    )

    -- a binary search ends at the place of the key, or at the gap for it
    pub searched : (k : K) (xs : List Y) (r : Result ℕ ℕ) → IsInKeyOrder cmp key (map f xs) → IsSearchInRange r (length xs)
        → IsBinarySearchResult (λ y. cmp (key (f y)) k) xs r
        → record { place : IfOk r (IsKeyPlace cmp key k (map f xs)); gap : IfErr r (IsKeyGap cmp key k (map f xs)) }
    searched k xs (Ok i) order in_range equal = record { place = place_from_found k xs i order in_range equal; gap = tt }
    searched k xs (Err i) order in_range parted = record { place = tt; gap = gap_from_absent k xs i in_range (parted (rises k xs order)) }

  -- the same where the list is what is held
  module _ {X : Type 0} (key : X → K) where
    pub searched_key : (k : K) (xs : List X) (r : Result ℕ ℕ) → IsInKeyOrder cmp key xs → IsSearchInRange r (length xs)
        → IsBinarySearchResult (λ y. cmp (key y) k) xs r
        → record { place : IfOk r (IsKeyPlace cmp key k xs); gap : IfErr r (IsKeyGap cmp key k xs) }
    searched_key k xs r order in_range found =
        subst (λ ys. IsInKeyOrder cmp key ys → record { place : IfOk r (IsKeyPlace cmp key k ys); gap : IfErr r (IsKeyGap cmp key k ys) })
        (map-id xs)
        (λ order'. searched key (λ (x : X). x) k xs r order' in_range found) order

    pub find_key-at_place : (k : K) (xs : List X) (i : ℕ) (d : X) → IsKeyPlace cmp key k xs i → find_key cmp key k xs ≡ Some (get_or xs i d)
    find_key-at_place k xs i d =
        subst (λ ys. IsKeyPlace cmp key k ys i → find_key cmp key k ys ≡ Some (get_or xs i d))
        (map-id xs) (find-at_place key (λ (x : X). x) k xs i d)

    pub find_key-in_gap : (k : K) (xs : List X) (i : ℕ) → IsKeyGap cmp key k xs i → find_key cmp key k xs ≡ None
    find_key-in_gap k xs i =
        subst (λ ys. IsKeyGap cmp key k ys i → find_key cmp key k ys ≡ None) (map-id xs) (find-in_gap key (λ (x : X). x) k xs i)

    pub put_key-at_place : (y : X) (xs : List X) (i : ℕ) → IsKeyPlace cmp key (key y) xs i → put_key cmp key y xs ≡ set xs i y
    put_key-at_place y xs i place =
        subst (λ ys. IsKeyPlace cmp key (key y) ys i → put_key cmp key y ys ≡ map (λ x. x) (set xs i y))
        (map-id xs) (put-at_place key (λ (x : X). x) y xs i) place ∙ map-id (set xs i y)

    pub put_key-in_gap : (y : X) (xs : List X) (i : ℕ) → IsKeyGap cmp key (key y) xs i → put_key cmp key y xs ≡ insert xs i y
    put_key-in_gap y xs i gap =
        subst (λ ys. IsKeyGap cmp key (key y) ys i → put_key cmp key y ys ≡ map (λ x. x) (insert xs i y))
        (map-id xs) (put-in_gap key (λ (x : X). x) y xs i) gap ∙ map-id (insert xs i y)

    pub without_key-at_place : (k : K) (xs : List X) (i : ℕ) → IsKeyPlace cmp key k xs i → without_key cmp key k xs ≡ remove xs i
    without_key-at_place k xs i place =
        subst (λ ys. IsKeyPlace cmp key k ys i → without_key cmp key k ys ≡ map (λ x. x) (remove xs i))
        (map-id xs) (without-at_place key (λ (x : X). x) k xs i) place ∙ map-id (remove xs i)

    pub without_key-in_gap : (k : K) (xs : List X) (i : ℕ) → IsKeyGap cmp key k xs i → without_key cmp key k xs ≡ xs
    without_key-in_gap k xs i gap =
        subst (λ ys. IsKeyGap cmp key k ys i → without_key cmp key k ys ≡ ys) (map-id xs) (without-in_gap key (λ (x : X). x) k xs i) gap

    -- two lists in order that find the same under every key are the same list
    find-past : (k : K) (x : X) (xs : List X) (o : Ordering) → cmp k (key x) ≡ o → is_eq o ≡ false
        → find_key cmp key k (x ∷ xs) ≡ find_key cmp key k xs
    find-past k x xs o is other = rw (is, other) refl

    find-first : (k : K) (x : X) (xs : List X) → cmp k (key x) ≡ Equal → find_key cmp key k (x ∷ xs) ≡ Some x
    find-first k x xs is = rw is refl

    same-tail : (x : X) (xs ys : List X) → IsInKeyOrder cmp key (x ∷ xs) → IsInKeyOrder cmp key (x ∷ ys) → (k : K) (o : Ordering)
        → cmp k (key x) ≡ o
        → find_key cmp key k (x ∷ xs) ≡ find_key cmp key k (x ∷ ys) → find_key cmp key k xs ≡ find_key cmp key k ys
    same-tail x xs ys order order' k Less is found = sym (find-past k x xs Less is refl) ∙ found ∙ find-past k x ys Less is refl
    same-tail x xs ys order order' k Greater is found = sym (find-past k x xs Greater is refl) ∙ found ∙ find-past k x ys Greater is refl
    same-tail x xs ys order order' k Equal is found =
        find-below key k xs (below-tied key k (key x) xs is order.0) ∙ sym (find-below key k ys (below-tied key k (key x) ys is order'.0))

    same-from_heads : (x y : X) (xs ys : List X) (o : Ordering) → cmp (key x) (key y) ≡ o → IsInKeyOrder cmp key (x ∷ xs)
        → IsInKeyOrder cmp key (y ∷ ys)
        → ((k : K) → find_key cmp key k (x ∷ xs) ≡ find_key cmp key k (y ∷ ys))
        → (((k : K) → find_key cmp key k xs ≡ find_key cmp key k ys) → xs ≡ ys) → x ∷ xs ≡ y ∷ ys
    same-from_heads x y xs ys Less is order order' found later =
        let here = find-first (key x) x xs (tied_itself total (key x)) in
        let there = find-below key (key x) (y ∷ ys) (is, below key (key x) (key y) ys is order'.0) in
        absurd (none-some x (sym there ∙ sym (found (key x)) ∙ here))
    same-from_heads x y xs ys Greater is order order' found later =
        let back = reversed (key x) (key y) Greater is in
        let here = find-first (key y) y ys (tied_itself total (key y)) in
        let there = find-below key (key y) (x ∷ xs) (back, below key (key y) (key x) xs back order.0) in
        absurd (none-some y (sym there ∙ found (key y) ∙ here))
    same-from_heads x y xs ys Equal is order order' found later =
        let both : Some x ≡ Some y = sym (find-first (key x) x xs (tied_itself total (key x))) ∙ found (key x)
        ∙ find-first (key x) y ys is in
        let head : x ≡ y = Prim.cc in
        let order'' = subst (λ z. IsInKeyOrder cmp key (z ∷ ys)) (sym head) order' in
        let found' : (k : K) → find_key cmp key k (x ∷ xs) ≡ find_key cmp key k (x ∷ ys) = λ k. found k
        ∙ ap (λ z. find_key cmp key k (z ∷ ys)) (sym head) in
        ap (λ zs. x ∷ zs) (later (λ k. same-tail x xs ys order order'' k (cmp k (key x)) refl (found' k))) ∙ ap (λ z. z ∷ ys) head

    pub same_entries : (xs ys : List X) → IsInKeyOrder cmp key xs → IsInKeyOrder cmp key ys
        → ((k : K) → find_key cmp key k xs ≡ find_key cmp key k ys) → xs ≡ ys
    same_entries [] [] order order' found = refl
    same_entries [] (y ∷ ys) order order' found = absurd (none-some y (found (key y) ∙ find-first (key y) y ys (tied_itself total (key y))))
    same_entries (x ∷ xs) [] order order' found =
        absurd (none-some x (sym (found (key x)) ∙ find-first (key x) x xs (tied_itself total (key x))))
    same_entries (x ∷ xs) (y ∷ ys) order order' found =
        same-from_heads x y xs ys (cmp (key x) (key y)) refl order order' found (same_entries xs ys order.1 order'.1)

    -- an item that a set takes: a further one goes to its place, and one of a key that is there is left out
    all-insert : (P : X → Type 0) (x : X) (ys : List X) → P x → AllByRecursion P ys
        → AllByRecursion P (insert_key (λ a b. cmp (key a) (key b)) ys x)
    all-insert P x [] p all = (p, tt)
    all-insert P x (y ∷ ys) p all =
        elim (cmp (key x) (key y)) as (λ o. AllByRecursion P (match_ordering o
        (x ∷ y ∷ ys) (y ∷ ys) (y ∷ insert_key (λ a b. cmp (key a) (key b)) ys x))) [
          | Less ↦ (p, all)
          | Equal ↦ all
          | Greater ↦ (all.0, all-insert P x ys p all.1)
        ]

    in_order-insert_at : (x y : X) (ys : List X) (o : Ordering) → cmp (key x) (key y) ≡ o → IsInKeyOrder cmp key (y ∷ ys)
        → IsInKeyOrder cmp key (insert_key (λ a b. cmp (key a) (key b)) ys x)
        → IsInKeyOrder cmp key (match_ordering o (x ∷ y ∷ ys) (y ∷ ys) (y ∷ insert_key (λ a b. cmp (key a) (key b)) ys x))
    in_order-insert_at x y ys Less is order rest = ((is, below key (key x) (key y) ys is order.0), order)
    in_order-insert_at x y ys Equal is order rest = order
    in_order-insert_at x y ys Greater is order rest =
        (all-insert (λ z. cmp (key y) (key z) ≡ Less) x ys (reversed (key x) (key y) Greater is) order.0, rest)

    pub in_order-insert : (x : X) (ys : List X) → IsInKeyOrder cmp key ys
        → IsInKeyOrder cmp key (insert_key (λ a b. cmp (key a) (key b)) ys x)
    in_order-insert x [] order = (tt, tt)
    in_order-insert x (y ∷ ys) order = in_order-insert_at x y ys _ refl order (in_order-insert x ys order.1)

-- what a set of items holds, seen through f
module _ {X Y : Type 0} (cmp : X → X → Ordering) (f : Y → X) where
  pub insert_key-map : (ys : List Y) (y : Y) → map f (insert_key (λ a b. cmp (f a) (f b)) ys y) ≡ insert_key cmp (map f ys) (f y)
  insert_key-map [] y = refl
  insert_key-map (z ∷ zs) y =
      elim (cmp (f y) (f z)) as (λ o. map f (match_ordering o (y ∷ z ∷ zs) (z ∷ zs) (z ∷ insert_key (λ a b. cmp (f a) (f b)) zs y))
      ≡ match_ordering o (f y ∷ f z ∷ map f zs) (f z ∷ map f zs) (f z ∷ insert_key cmp (map f zs) (f y))) [
        | Less ↦ refl
        | Equal ↦ refl
        | Greater ↦ ap (λ l. f z ∷ l) (insert_key-map zs y)
      ]

  pub list_any-map : (P : X → Bool) (ys : List Y) → list_any (λ y. P (f y)) ys ≡ list_any P (map f ys)
  list_any-map P [] = refl
  list_any-map P (y ∷ ys) = ap (λ b. P (f y) || b) (list_any-map P ys)

-- a list in order whose items are seen through f is in order by what is seen, and its keys are found there
module _ {K X Y : Type 0} (cmp : K → K → Ordering) (key : X → K) (f : Y → X) where
  pub find_key-map : (k : K) (ys : List Y) → option_map f (find_key cmp (λ y. key (f y)) k ys) ≡ find_key cmp key k (map f ys)
  find_key-map k [] = refl
  find_key-map k (y ∷ ys) =
      elim (is_eq (cmp k (key (f y)))) as (λ b. option_map f (cond b (Some y) (find_key cmp (λ y. key (f y)) k ys))
      ≡ cond b (Some (f y)) (find_key cmp key k (map f ys))) [
        | true ↦ refl
        | false ↦ find_key-map k ys
      ]

  all-map : (P : X → Type 0) (ys : List Y) → AllByRecursion (λ y. P (f y)) ys → AllByRecursion P (map f ys)
  all-map P [] all = tt
  all-map P (y ∷ ys) all = (all.0, all-map P ys all.1)

  all-unmap : (P : X → Type 0) (ys : List Y) → AllByRecursion P (map f ys) → AllByRecursion (λ y. P (f y)) ys
  all-unmap P [] all = tt
  all-unmap P (y ∷ ys) all = (all.0, all-unmap P ys all.1)

  pub in_order-map : (ys : List Y) → IsInKeyOrder cmp (λ y. key (f y)) ys → IsInKeyOrder cmp key (map f ys)
  in_order-map [] order = tt
  in_order-map (y ∷ ys) order = (all-map (λ x. cmp (key (f y)) (key x) ≡ Less) ys order.0, in_order-map ys order.1)

  pub in_order-unmap : (ys : List Y) → IsInKeyOrder cmp key (map f ys) → IsInKeyOrder cmp (λ y. key (f y)) ys
  in_order-unmap [] order = tt
  in_order-unmap (y ∷ ys) order = (all-unmap (λ x. cmp (key (f y)) (key x) ≡ Less) ys order.0, in_order-unmap ys order.1)

-- keys that are compared by what g makes of them may as well be what g makes of them
module _ {J K X : Type 0} (cmp : K → K → Ordering) (g : J → K) (key : X → J) where
  pub in_order-on : (xs : List X) → IsInKeyOrder (λ i j. cmp (g i) (g j)) key xs → IsInKeyOrder cmp (λ x. g (key x)) xs
  in_order-on [] order = tt
  in_order-on (x ∷ xs) order = (order.0, in_order-on xs order.1)

  pub find_key-on : (j : J) (xs : List X) → find_key (λ i j. cmp (g i) (g j)) key j xs ≡ find_key cmp (λ x. g (key x)) (g j) xs
  find_key-on j [] = refl
  find_key-on j (x ∷ xs) = ap (cond (is_eq (cmp (g j) (g (key x)))) (Some x)) (find_key-on j xs)

  pub without_key-on : (j : J) (xs : List X) → without_key (λ i j. cmp (g i) (g j)) key j xs ≡ without_key cmp (λ x. g (key x)) (g j) xs
  without_key-on j [] = refl
  without_key-on j (x ∷ xs) = ap (λ ys. cond (is_eq (cmp (g j) (g (key x)))) xs (x ∷ ys)) (without_key-on j xs)

  pub put_key-on : (x : X) (xs : List X) → put_key (λ i j. cmp (g i) (g j)) key x xs ≡ put_key cmp (λ y. g (key y)) x xs
  put_key-on x [] = refl
  put_key-on x (y ∷ ys) = ap (λ zs. match_ordering (cmp (g (key x)) (g (key y))) (x ∷ y ∷ ys) (x ∷ ys) (y ∷ zs)) (put_key-on x ys)
