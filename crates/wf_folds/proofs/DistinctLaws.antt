-- Distinct items of which some are chosen.
use Rattle.std.proofs.Common.{◌≡◌, Bool, true, false, ◌||◌, ◌&&◌, cond, List, [], ◌∷◌, ◌++◌, refl, sym, ◌∙◌, ap, true≢false}
use Rattle.std.specs.List.{filter, list_all}
use Rattle.std.specs.Ordering.{is_eq}
use Rattle.std.proofs.lemmas.List.Folds.{list_all-append}
use Rattle.wf_val.specs.ValueOrder.{order}
use Rattle.wf_val.specs.ValueTree.{ValueTree}
use Rattle.wf_fn_list.specs.Membership.{is_among}
use Rattle.wf_fn_list.proofs.MembershipLemmas.{same-from_equal}
use Rattle.wf_fn_sets.specs.Sets.{distinct_after, distinct, in_all}

-- among those that pass a test, it is the same which of two lists stood before that have the same of them
agree-after : (test : ValueTree → Bool) (xs before others : List ValueTree) →
    ((q : ValueTree) → test q ≡ true → is_among before q ≡ is_among others q) →
    distinct_after before (filter test xs) ≡ distinct_after others (filter test xs)
agree-after test [] before others agree = refl
agree-after test (x ∷ xs) before others agree =
    go (agree-after test xs before others agree)
    (agree-after test xs (x ∷ before) (x ∷ others) (λ q passes. ap (λ b. is_eq (order q x) || b) (agree q passes))) (test x) refl
  where
    go : distinct_after before (filter test xs) ≡ distinct_after others (filter test xs) →
        distinct_after (x ∷ before) (filter test xs) ≡ distinct_after (x ∷ others) (filter test xs) →
        (b : Bool) → test x ≡ b → distinct_after before (cond b (x ∷ filter test xs) (filter test xs))
        ≡ distinct_after others (cond b (x ∷ filter test xs) (filter test xs))
    go there new true passes =
        ap (λ b. cond b (distinct_after before (filter test xs)) (x ∷ distinct_after (x ∷ before) (filter test xs))) (agree x passes)
        ∙ (ap (λ l. cond (is_among others x) l (x ∷ distinct_after (x ∷ before) (filter test xs))) there
        ∙ ap (λ l. cond (is_among others x) (distinct_after others (filter test xs)) (x ∷ l)) new)
    go there new false fails = there

-- what doesn't pass may stand before, or not
passed-over : (test : ValueTree → Bool) (x : ValueTree) (before : List ValueTree) → test x ≡ false → (q : ValueTree) → test q ≡ true →
    is_among (x ∷ before) q ≡ is_among before q
passed-over test x before fails q passes = go (is_eq (order q x)) refl
  where
    go : (b : Bool) → is_eq (order q x) ≡ b → b || is_among before q ≡ is_among before q
    go true same = absurd (true≢false (sym passes ∙ ap test (same-from_equal q x same) ∙ fails))
    go false same = refl

filter-after : (test : ValueTree → Bool) (before xs : List ValueTree) →
    filter test (distinct_after before xs) ≡ distinct_after before (filter test xs)
filter-after test before [] = refl
filter-after test before (x ∷ xs) =
    go (filter-after test before xs) (filter-after test (x ∷ before) xs) (is_among before x) refl (test x) refl
  where
    go : filter test (distinct_after before xs) ≡ distinct_after before (filter test xs) →
        filter test (distinct_after (x ∷ before) xs) ≡ distinct_after (x ∷ before) (filter test xs) →
        (there : Bool) → is_among before x ≡ there → (b : Bool) → test x ≡ b →
        filter test (cond there (distinct_after before xs) (x ∷ distinct_after (x ∷ before) xs))
        ≡ distinct_after before (cond b (x ∷ filter test xs) (filter test xs))
    go old new true is true passes =
        old
        ∙ sym (ap (λ b. cond b (distinct_after before (filter test xs)) (x ∷ distinct_after (x ∷ before) (filter test xs))) is)
    go old new true is false fails = old
    go old new false is true passes =
        ap (λ b. cond b (x ∷ filter test (distinct_after (x ∷ before) xs)) (filter test (distinct_after (x ∷ before) xs))) passes
        ∙ (ap (λ l. x ∷ l) new
        ∙ sym (ap (λ b. cond b (distinct_after before (filter test xs)) (x ∷ distinct_after (x ∷ before) (filter test xs))) is))
    go old new false is false fails =
        ap (λ b. cond b (x ∷ filter test (distinct_after (x ∷ before) xs)) (filter test (distinct_after (x ∷ before) xs))) fails
        ∙ (new
        ∙ agree-after test xs (x ∷ before) before (λ q passes. passed-over test x before fails q passes))

again-after : (before xs : List ValueTree) → distinct_after before (distinct_after before xs) ≡ distinct_after before xs
again-after before [] = refl
again-after before (x ∷ xs) = go (again-after before xs) (again-after (x ∷ before) xs) (is_among before x) refl
  where
    go : distinct_after before (distinct_after before xs) ≡ distinct_after before xs →
        distinct_after (x ∷ before) (distinct_after (x ∷ before) xs) ≡ distinct_after (x ∷ before) xs →
        (there : Bool) → is_among before x ≡ there →
        distinct_after before (cond there (distinct_after before xs) (x ∷ distinct_after (x ∷ before) xs))
        ≡ cond there (distinct_after before xs) (x ∷ distinct_after (x ∷ before) xs)
    go old new true is = old
    go old new false is =
        ap (λ b. cond b (distinct_after before (distinct_after (x ∷ before) xs))
        (x ∷ distinct_after (x ∷ before) (distinct_after (x ∷ before) xs))) is
        ∙ ap (λ l. x ∷ l) new

-- the items that others have, once each, may be chosen of the distinct items
pub distinct-chosen : (test : ValueTree → Bool) (xs : List ValueTree) → distinct (filter test xs) ≡ distinct (filter test (distinct xs))
distinct-chosen test xs = sym (again-after [] (filter test xs)) ∙ ap distinct (sym (filter-after test [] xs))

-- the items that one list more has
pub in_all-more : (others : List (List ValueTree)) (ys xs : List ValueTree) → in_all (others ++ ys ∷ []) xs
    ≡ in_all (ys ∷ []) (in_all others xs)
in_all-more others ys [] = refl
in_all-more others ys (x ∷ xs) =
    ap (λ b. cond b (x ∷ in_all (others ++ ys ∷ []) xs) (in_all (others ++ ys ∷ []) xs))
    (list_all-append (λ zs. is_among zs x) others (ys ∷ []))
    ∙ (ap (λ l. cond (list_all (λ zs. is_among zs x) others && (is_among ys x && true)) (x ∷ l) l) (in_all-more others ys xs)
    ∙ go (list_all (λ zs. is_among zs x) others))
  where
    go : (b : Bool) → cond (b && (is_among ys x && true)) (x ∷ in_all (ys ∷ []) (in_all others xs)) (in_all (ys ∷ []) (in_all others xs))
        ≡ in_all (ys ∷ []) (cond b (x ∷ in_all others xs) (in_all others xs))
    go true = refl
    go false = refl
