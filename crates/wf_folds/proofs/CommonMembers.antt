-- The members that objects have in common: one object more is taken with what those before it have in common.
use Rattle.std.proofs.Common.{◌≡◌, ℕ, suc, ◌+◌, ◌-◌, ◌≤◌, Bool, true, false, ◌&&◌, cond, List, [], ◌∷◌, ◌++◌, Option, Some, None, Result}
use Rattle.std.proofs.Common.{Ok, Err, length, refl, sym, ◌∙◌, ap, subst, arith, length-append}
use Rattle.std.specs.List.{AllByRecursion, filter, list_all}
use Rattle.std.specs.Prelude.{is_some, slice_get, unwrap_or}
use Rattle.std.proofs.lemmas.List.Folds.{list_all-append}
use Rattle.wf_val.proofs.ValueTreeLemmas.{pairs-members}
use Rattle.wf_val.specs.Arguments.{Answer, given, bounded, object_of}
use Rattle.wf_val.specs.Get.{value_of}
use Rattle.wf_val.specs.ValueTree.{ValueTree, MemberTrees, Member, object, members, pairs, Fits}
use Rattle.wf_val.specs.declared.fault.EvalFault.{EvalFault}
use Rattle.wf_val.specs.declared.function.Fun.{Fun}
use Rattle.wf_fn_sets.specs.Sets.{all_have, common_members, each_from, objects_together, intersection_row}
use Rattle.wf_fn_sets.proofs.MemberLaws.{common-value}
use Rattle.wf_folds.specs.Paired.{at_place}
use Rattle.wf_folds.proofs.EachLaws.{each-snoc, all-last, Parted, parted}
use Rattle.wf_folds.proofs.Lighter.{bounded-fits, chosen-fit, members-pairs}
use Rattle.wf_folds.proofs.CommonItems.{place-bounded}

last-of : (objects : List (List Member)) (ms : List Member) →
    unwrap_or (slice_get (objects ++ ms ∷ []) (length (objects ++ ms ∷ []) - 1)) [] ≡ ms
last-of objects ms =
    let place : length (objects ++ ms ∷ []) - 1 ≡ length objects = rw (length-append objects (ms ∷ [])) (omega arith) in
    ap (λ n. unwrap_or (slice_get (objects ++ ms ∷ []) n) []) place ∙ ap (λ o. unwrap_or o []) (at-end objects)
  where
    at-end : (objects : List (List Member)) → slice_get (objects ++ ms ∷ []) (length objects) ≡ Some ms
    at-end [] = refl
    at-end (o ∷ objects) = at-end objects

-- of several objects the last has the members
of-last : (objects : List (List Member)) (ms : List Member) →
    common_members (objects ++ ms ∷ []) ≡ filter (λ m. all_have (objects ++ ms ∷ []) m.0) ms
of-last objects ms = ap (filter (λ m. all_have (objects ++ ms ∷ []) m.0)) (last-of objects ms)

filter-same : (p q : Member → Bool) (ms : List Member) → ((m : Member) → p m ≡ q m) → filter p ms ≡ filter q ms
filter-same p q [] same = refl
filter-same p q (m ∷ ms) same =
    ap (λ b. cond b (m ∷ filter p ms) (filter p ms)) (same m) ∙ ap (λ l. cond (q m) (m ∷ l) l) (filter-same p q ms same)

there : (a : Bool) (v : Option ValueTree) → is_some (cond (a && (is_some v && true)) v None) ≡ (a && (is_some v && true))
there true (Some t) = refl
there true None = refl
there false v = refl

-- what all have in common has a member of a name exactly where all have one
common-has : (front : List (List Member)) (ms : List Member) (name : List ℕ) →
    is_some (value_of name (common_members (front ++ ms ∷ []))) ≡ all_have (front ++ ms ∷ []) name
common-has front ms name =
    let all : all_have (front ++ ms ∷ []) name ≡ (all_have front name && (is_some (value_of name ms) && true)) =
    list_all-append (λ os. is_some (value_of name os)) front (ms ∷ []) in
    ap is_some (common-value front ms name)
    ∙ (ap (λ b. is_some (cond b (value_of name ms) None)) all
    ∙ (there (all_have front name) (value_of name ms) ∙ sym all))

common-more : (front : List (List Member)) (last ms : List Member) → common_members ((front ++ last ∷ []) ++ ms ∷ [])
    ≡ common_members (pairs (members (common_members (front ++ last ∷ []))) ∷ ms ∷ [])
common-more front last ms =
    of-last (front ++ last ∷ []) ms
    ∙ (filter-same (λ m. all_have ((front ++ last ∷ []) ++ ms ∷ []) m.0)
    (λ m. all_have (common_members (front ++ last ∷ []) ∷ ms ∷ []) m.0) ms
    (λ m. list_all-append (λ os. is_some (value_of m.0 os)) (front ++ last ∷ []) (ms ∷ [])
    ∙ ap (λ b. b && (is_some (value_of m.0 ms) && true)) (sym (common-has front last m.0)))
    ∙ ap (λ l. common_members (l ∷ ms ∷ [])) (sym (pairs-members (common_members (front ++ last ∷ [])))))

-- arguments that are objects and fit
parts-fit : (i : ℕ) (ts : List ValueTree) (os : List (List Member)) → each_from (object_of Fun.Intersection) i ts ≡ Ok os →
    AllByRecursion Fits ts → AllByRecursion (λ o. Fits (object (members o))) os
parts-fit i [] os is fit = let same : [] ≡ os = cc in subst (AllByRecursion (λ o. Fits (object (members o)))) same tt
parts-fit i (object ms ∷ ts) os is fit =
    go (each_from (object_of Fun.Intersection) (suc i) ts) (λ more rest. parts-fit (suc i) ts more rest fit.1) is
  where
    go : (r : Result (List (List Member)) EvalFault) →
        ((more : List (List Member)) → r ≡ Ok more → AllByRecursion (λ o. Fits (object (members o))) more) →
        given r (λ more. Ok (pairs ms ∷ more)) ≡ Ok os → AllByRecursion (λ o. Fits (object (members o))) os
    go (Err f) rest is = absurd cc
    go (Ok more) rest is =
        let same : pairs ms ∷ more ≡ os = cc in
        subst (AllByRecursion (λ o. Fits (object (members o)))) same
        (subst (λ l. Fits (object l)) (sym (members-pairs ms)) fit.0, rest more refl)
parts-fit i (t ∷ ts) os is fit = absurd cc

with-object : (n : ℕ) (os : List (List Member)) (ms : List Member) (rest : List (List Member)) (t : ValueTree) → Parted (ms ∷ rest) →
    given (given (given (object_of Fun.Intersection n (Some t)) (λ y. Ok (rest ++ y ∷ []))) (λ ls. Ok (ms ∷ ls)))
    (λ objects. bounded (object (members (common_members objects))))
    ≡ at_place n (intersection_row (object (members (common_members (ms ∷ rest))) ∷ t ∷ []))
with-object n os ms rest (object ns) parts =
    ap (λ l. bounded (object (members l)))
    (ap (λ l. common_members (l ++ pairs ns ∷ [])) parts.whole
    ∙ (common-more parts.front parts.last (pairs ns)
    ∙ ap (λ l. common_members (pairs (members (common_members l)) ∷ pairs ns ∷ [])) (sym parts.whole)))
    ∙ sym (place-bounded n (object (members (common_members (pairs (members (common_members (ms ∷ rest))) ∷ pairs ns ∷ [])))))
with-object n os ms rest t parts = refl

common-fit : (ms : List Member) (rest : List (List Member)) → AllByRecursion (λ o. Fits (object (members o))) (ms ∷ rest) →
    Parted (ms ∷ rest) → Fits (object (members (common_members (ms ∷ rest))))
common-fit ms rest fit parts =
    let last : Fits (object (members parts.last)) =
    all-last (λ o. Fits (object (members o))) parts.front parts.last
    (subst (AllByRecursion (λ o. Fits (object (members o)))) parts.whole fit) in
    subst (λ l. Fits (object (members l)))
    (sym (ap common_members parts.whole ∙ of-last parts.front parts.last))
    (chosen-fit (λ m. all_have (parts.front ++ parts.last ∷ []) m.0) parts.last last)

with-objects : (n : ℕ) (ms : MemberTrees) (t : ValueTree) → Fits (object ms) → (r : Result (List (List Member)) EvalFault) →
    ((os : List (List Member)) → r ≡ Ok os → AllByRecursion (λ o. Fits (object (members o))) os) →
    given (given (given r (λ ls. given (object_of Fun.Intersection n (Some t)) (λ y. Ok (ls ++ y ∷ [])))) (λ ls. Ok (pairs ms ∷ ls)))
    (λ objects. bounded (object (members (common_members objects))))
    ≡ given (given (given r (λ ls. Ok (pairs ms ∷ ls))) (λ objects. bounded (object (members (common_members objects)))))
    (λ u. at_place n (intersection_row (u ∷ t ∷ [])))
with-objects n ms t fit (Err f) fits = refl
with-objects n ms t fit (Ok rest) fits =
    let parts = parted (pairs ms) rest in
    with-object n (pairs ms ∷ rest) (pairs ms) rest t parts
    ∙ sym (ap (λ a. given a (λ u. at_place n (intersection_row (u ∷ t ∷ []))))
    (bounded-fits (object (members (common_members (pairs ms ∷ rest))))
    (common-fit (pairs ms) rest (subst (λ l. Fits (object l)) (sym (members-pairs ms)) fit, fits rest refl) parts)))

pub objects-more : (ms : MemberTrees) (ts : List ValueTree) (t : ValueTree) → Fits (object ms) → AllByRecursion Fits ts →
    objects_together Fun.Intersection common_members ((object ms ∷ ts) ++ t ∷ [])
    ≡ given (objects_together Fun.Intersection common_members (object ms ∷ ts))
    (λ u. at_place (length (object ms ∷ ts)) (intersection_row (u ∷ t ∷ [])))
objects-more ms ts t fit fits =
    let place : 1 + length ts ≡ length (object ms ∷ ts) = omega arith in
    ap (λ a. given (given a (λ ls. Ok (pairs ms ∷ ls))) (λ objects. bounded (object (members (common_members objects)))))
    (each-snoc (object_of Fun.Intersection) 1 ts t
    ∙ ap (λ n. given (each_from (object_of Fun.Intersection) 1 ts)
    (λ ls. given (object_of Fun.Intersection n (Some t)) (λ y. Ok (ls ++ y ∷ [])))) place)
    ∙ with-objects (length (object ms ∷ ts)) ms t fit (each_from (object_of Fun.Intersection) 1 ts) (λ os is. parts-fit 1 ts os is fits)
