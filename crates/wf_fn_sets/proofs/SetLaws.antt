-- What lists taken together have, and how often, and in which order.
use Rattle.std.proofs.Common.{◌≡◌, List, [], ◌∷◌, ◌++◌, refl, sym, ◌∙◌, ap, cond, Bool, true, false, ◌||◌, ◌&&◌}
use Rattle.std.specs.List.{AllByRecursion, IsDistinct, filter, flat_map, list_all, list_any}
use Rattle.std.specs.Ordering.{is_eq, ordering_reverse}
use Rattle.std.specs.declared.cmp.Ordering.{Ordering}
use Rattle.std.specs.declared.cmp.Ordering.TheVariants.{Less, Equal, Greater}
use Rattle.wf_val.specs.ValueOrder.{order}
use Rattle.wf_val.specs.ValueOrderLaws.{order-total}
use Rattle.wf_val.specs.ValueTree.{ValueTree}
use Rattle.wf_fn_list.specs.Membership.{is_among}
use Rattle.wf_fn_list.proofs.MembershipLemmas.{same-from_equal}
use Rattle.wf_fn_sets.specs.Sets.{distinct_after, distinct, in_all, common_items, union_items}

pub reversed-equal : (o : Ordering) → is_eq (ordering_reverse o) ≡ is_eq o
reversed-equal Less = refl
reversed-equal Equal = refl
reversed-equal Greater = refl

equal-swapped : (x y : ValueTree) → is_eq (order x y) ≡ is_eq (order y x)
equal-swapped x y = ap is_eq (order-total.antisymm x y) ∙ reversed-equal (order y x)

or-none : (a : Bool) → a || false ≡ a
or-none true = refl
or-none false = refl

or-first_false : (a b : Bool) → a || b ≡ false → a ≡ false
or-first_false true b is = absurd (cc)
or-first_false false b is = refl

or-second_false : (a b : Bool) → a || b ≡ false → b ≡ false
or-second_false true b is = absurd (cc)
or-second_false false b is = is

-- the distinct values are among the values
merged : (e d a b : Bool) → d || (e || b) ≡ a || (e || b) → (e || d) || b ≡ (e || a) || b
merged true d a b is = refl
merged false d a b is = is

passed-over : (e a b : Bool) → (e ≡ true → b ≡ true) → (e || a) || b ≡ a || b
passed-over true true b known = refl
passed-over true false b known = sym (known refl)
passed-over false a b known = refl

after-among : (before xs : List ValueTree) (q : ValueTree) → is_among (distinct_after before xs) q || is_among before q
    ≡ is_among xs q || is_among before q
after-among before [] q = refl
after-among before (x ∷ xs) q = at (is_among before x) refl (after-among before xs q) (after-among (x ∷ before) xs q)
  where
    at : (b : Bool) → b ≡ is_among before x → is_among (distinct_after before xs) q || is_among before q
        ≡ is_among xs q || is_among before q
        → is_among (distinct_after (x ∷ before) xs) q || is_among (x ∷ before) q ≡ is_among xs q || is_among (x ∷ before) q
        → is_among (cond b (distinct_after before xs) (x ∷ distinct_after (x ∷ before) xs)) q || is_among before q
        ≡ is_among (x ∷ xs) q || is_among before q
    at true known passed kept =
        passed ∙ sym (passed-over (is_eq (order q x)) (is_among xs q) (is_among before q)
        (λ e. ap (is_among before) (same-from_equal q x e) ∙ sym known))
    at false known passed kept =
        merged (is_eq (order q x)) (is_among (distinct_after (x ∷ before) xs) q) (is_among xs q) (is_among before q) kept

pub distinct-among : (xs : List ValueTree) (q : ValueTree) → is_among (distinct xs) q ≡ is_among xs q
distinct-among xs q = sym (or-none (is_among (distinct xs) q)) ∙ after-among [] xs q ∙ or-none (is_among xs q)

-- no two of them are the same
forget : (x : ValueTree) (before ys : List ValueTree) → AllByRecursion (λ y. is_among (x ∷ before) y ≡ false) ys
    → AllByRecursion (λ y. is_among before y ≡ false) ys
forget x before [] all = tt
forget x before (y ∷ ys) all = (or-second_false (is_eq (order y x)) (is_among before y) all.0, forget x before ys all.1)

apart : (x : ValueTree) (before ys : List ValueTree) → AllByRecursion (λ y. is_among (x ∷ before) y ≡ false) ys
    → AllByRecursion (λ y. is_eq (order x y) ≡ false) ys
apart x before [] all = tt
apart x before (y ∷ ys) all = (equal-swapped x y ∙ or-first_false (is_eq (order y x)) (is_among before y) all.0, apart x before ys all.1)

new-at : (x : ValueTree) (before xs : List ValueTree) (b : Bool) → b ≡ is_among before x
    → AllByRecursion (λ y. is_among before y ≡ false) (distinct_after before xs)
    → AllByRecursion (λ y. is_among (x ∷ before) y ≡ false) (distinct_after (x ∷ before) xs)
    → AllByRecursion (λ y. is_among before y ≡ false) (cond b (distinct_after before xs) (x ∷ distinct_after (x ∷ before) xs))
new-at x before xs true is passed kept = passed
new-at x before xs false is passed kept = (sym is, forget x before (distinct_after (x ∷ before) xs) kept)

after-new : (before xs : List ValueTree) → AllByRecursion (λ y. is_among before y ≡ false) (distinct_after before xs)
after-new before [] = tt
after-new before (x ∷ xs) = new-at x before xs (is_among before x) refl (after-new before xs) (after-new (x ∷ before) xs)

once-at : (x : ValueTree) (before xs : List ValueTree) (b : Bool) → IsDistinct (λ y z. is_eq (order y z)) (distinct_after before xs)
    → IsDistinct (λ y z. is_eq (order y z)) (distinct_after (x ∷ before) xs)
    → IsDistinct (λ y z. is_eq (order y z)) (cond b (distinct_after before xs) (x ∷ distinct_after (x ∷ before) xs))
unfolding IsDistinct
once-at x before xs true passed kept = passed
once-at x before xs false passed kept = (apart x before (distinct_after (x ∷ before) xs) (after-new (x ∷ before) xs), kept)

after-once : (before xs : List ValueTree) → IsDistinct (λ y z. is_eq (order y z)) (distinct_after before xs)
unfolding IsDistinct
after-once before [] = tt
after-once before (x ∷ xs) = once-at x before xs (is_among before x) (after-once before xs) (after-once (x ∷ before) xs)

pub distinct-once : (xs : List ValueTree) → IsDistinct (λ y z. is_eq (order y z)) (distinct xs)
distinct-once xs = after-once [] xs

-- a further value goes to the end where it is new
or-moved : (e a b : Bool) → (e || b) || a ≡ b || (e || a)
or-moved true a true = refl
or-moved true a false = refl
or-moved false a b = refl

known-moved : (e a b : Bool) → (e ≡ true → b ≡ true) → b || a ≡ b || (e || a)
known-moved true a b known = ap (λ c. c || a) (known refl) ∙ ap (λ c. c || true) (sym (known refl))
known-moved false a b known = refl

consed : (x y : ValueTree) (b : Bool) (ys : List ValueTree) → y ∷ cond b ys (ys ++ x ∷ []) ≡ cond b (y ∷ ys) ((y ∷ ys) ++ x ∷ [])
consed x y true ys = refl
consed x y false ys = refl

after-more : (before xs : List ValueTree) (x : ValueTree)
    → distinct_after before (xs ++ x ∷ [])
    ≡ cond (is_among before x || is_among xs x) (distinct_after before xs) (distinct_after before xs ++ x ∷ [])
after-more before [] x = ap (λ b. cond b [] (x ∷ [])) (sym (or-none (is_among before x)))
after-more before (y ∷ ys) x = at (is_among before y) refl (after-more before ys x) (after-more (y ∷ before) ys x)
  where
    at : (b : Bool) → b ≡ is_among before y
        → distinct_after before (ys ++ x ∷ [])
        ≡ cond (is_among before x || is_among ys x) (distinct_after before ys) (distinct_after before ys ++ x ∷ [])
        → distinct_after (y ∷ before) (ys ++ x ∷ [])
        ≡ cond (is_among (y ∷ before) x || is_among ys x) (distinct_after (y ∷ before) ys) (distinct_after (y ∷ before) ys ++ x ∷ [])
        → cond b (distinct_after before (ys ++ x ∷ [])) (y ∷ distinct_after (y ∷ before) (ys ++ x ∷ []))
        ≡ cond (is_among before x || is_among (y ∷ ys) x) (cond b (distinct_after before ys) (y ∷ distinct_after (y ∷ before) ys))
        (cond b (distinct_after before ys) (y ∷ distinct_after (y ∷ before) ys) ++ x ∷ [])
    at true known passed kept =
        passed ∙ ap (λ b. cond b (distinct_after before ys) (distinct_after before ys ++ x ∷ []))
        (known-moved (is_eq (order x y)) (is_among ys x) (is_among before x)
        (λ e. ap (is_among before) (same-from_equal x y e) ∙ sym known))
    at false known passed kept =
        ap (λ l. y ∷ l) kept ∙ consed x y (is_among (y ∷ before) x || is_among ys x) (distinct_after (y ∷ before) ys)
        ∙ ap (λ b. cond b (y ∷ distinct_after (y ∷ before) ys) ((y ∷ distinct_after (y ∷ before) ys) ++ x ∷ []))
        (or-moved (is_eq (order x y)) (is_among ys x) (is_among before x))

pub distinct-more : (xs : List ValueTree) (x : ValueTree) → distinct (xs ++ x ∷ [])
    ≡ cond (is_among xs x) (distinct xs) (distinct xs ++ x ∷ [])
distinct-more xs x = after-more [] xs x

-- lists taken together
or-joined : (a b c : Bool) → (a || b) || c ≡ a || (b || c)
or-joined true b c = refl
or-joined false b c = refl

among-joined : (xs ys : List ValueTree) (q : ValueTree) → is_among (xs ++ ys) q ≡ is_among xs q || is_among ys q
among-joined [] ys q = refl
among-joined (x ∷ xs) ys q =
    ap (λ b. is_eq (order q x) || b) (among-joined xs ys q) ∙ sym (or-joined (is_eq (order q x)) (is_among xs q) (is_among ys q))

among-any : (lists : List (List ValueTree)) (q : ValueTree) → is_among (flat_map (λ xs. xs) lists) q ≡ list_any (λ xs. is_among xs q) lists
among-any [] q = refl
among-any (xs ∷ lists) q = among-joined xs (flat_map (λ ys. ys) lists) q ∙ ap (λ b. is_among xs q || b) (among-any lists q)

pub union-among : (lists : List (List ValueTree)) (q : ValueTree) → is_among (union_items lists) q ≡ list_any (λ xs. is_among xs q) lists
union-among lists q = distinct-among (flat_map (λ xs. xs) lists) q ∙ among-any lists q

kept-test : (e a t : Bool) → (e || (a && t)) ≡ (e || (a && t)) → (e ≡ true → t ≡ true) → e || (a && t) ≡ (e || a) && t
kept-test true a t is passes = sym (passes refl)
kept-test false a t is passes = refl

dropped-test : (e a t : Bool) → (e ≡ true → t ≡ false) → a && t ≡ (e || a) && t
dropped-test true true t fails = refl
dropped-test true false t fails = sym (fails refl)
dropped-test false a t fails = refl

among-filtered : (test : ValueTree → Bool) (xs : List ValueTree) (q : ValueTree) → is_among (filter test xs) q ≡ is_among xs q && test q
among-filtered test [] q = refl
among-filtered test (x ∷ xs) q = at (test x) refl (among-filtered test xs q)
  where
    at : (b : Bool) → b ≡ test x → is_among (filter test xs) q ≡ is_among xs q && test q
        → is_among (cond b (x ∷ filter test xs) (filter test xs)) q ≡ is_among (x ∷ xs) q && test q
    at true is rest =
        ap (λ b. is_eq (order q x) || b) rest
        ∙ kept-test (is_eq (order q x)) (is_among xs q) (test q) refl (λ e. ap test (same-from_equal q x e) ∙ sym is)
    at false is rest = rest ∙ dropped-test (is_eq (order q x)) (is_among xs q) (test q) (λ e. ap test (same-from_equal q x e) ∙ sym is)

pub common-among : (xs : List ValueTree) (others : List (List ValueTree)) (q : ValueTree) → is_among (common_items (xs ∷ others)) q
    ≡ list_all (λ ys. is_among ys q) (xs ∷ others)
common-among xs others q = distinct-among (in_all others xs) q ∙ among-filtered (λ x. list_all (λ ys. is_among ys x) others) xs q
