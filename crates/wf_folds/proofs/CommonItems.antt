-- The items that lists have in common: one list more is taken with what those before it have in common.
use Rattle.std.proofs.Common.{◌≡◌, ℕ, suc, ◌+◌, ◌≤◌, Bool, true, false, List, [], ◌∷◌, ◌++◌, Option, Some, Result, Ok, Err, length}
use Rattle.std.proofs.Common.{refl, sym, ◌∙◌, ap, subst, arith}
use Rattle.std.specs.List.{filter, list_all}
use Rattle.std.specs.Prelude.{if◌then◌else◌}
use Rattle.wf_val.proofs.ValueTreeLemmas.{items-trees}
use Rattle.wf_val.specs.Arguments.{Answer, given, bounded, list_of}
use Rattle.wf_val.specs.Cut.{cut_u32, cut_u64}
use Rattle.wf_val.specs.ValueTree.{ValueTree, ValueTrees, list, trees, items, depth, weight, fits, Fits}
use Rattle.wf_val.specs.declared.fault.EvalFault.{EvalFault}
use Rattle.wf_val.specs.declared.function.Fun.{Fun}
use Rattle.wf_fn_list.specs.Membership.{is_among}
use Rattle.wf_fn_sets.specs.Sets.{distinct, in_all, common_items, each_from, lists_together, intersection_row}
use Rattle.wf_folds.specs.Paired.{at_place}
use Rattle.wf_folds.proofs.EachLaws.{each-snoc}
use Rattle.wf_folds.proofs.Lighter.{AreLighter, lighter-twice, filter-lighter, distinct-lighter, lighter-fits, bounded-fits, trees-items}
use Rattle.wf_folds.proofs.DistinctLaws.{distinct-chosen, in_all-more}

-- the test of a value's size has no place
pub place-bounded : (n : ℕ) (t : ValueTree) → at_place n (bounded t) ≡ bounded t
place-bounded n t = go (fits t)
  where
    go : (b : Bool) → at_place n (if b then Ok t else Err (EvalFault.TooBig (cut_u32 (depth t)) (cut_u64 (weight t))))
        ≡ if b then Ok t else Err (EvalFault.TooBig (cut_u32 (depth t)) (cut_u64 (weight t)))
    go true = refl
    go false = refl

common-more : (xs ys : List ValueTree) (others : List (List ValueTree)) → common_items (xs ∷ (others ++ ys ∷ []))
    ≡ common_items (items (trees (common_items (xs ∷ others))) ∷ ys ∷ [])
common-more xs ys others =
    ap distinct (in_all-more others ys xs)
    ∙ (distinct-chosen (λ x. list_all (λ zs. is_among zs x) (ys ∷ [])) (in_all others xs)
    ∙ ap (λ l. common_items (l ∷ ys ∷ [])) (sym (items-trees (distinct (in_all others xs)))))

common-fit : (xs : ValueTrees) (others : List (List ValueTree)) → Fits (list xs) → Fits (list (trees (common_items (items xs ∷ others))))
common-fit xs others fit =
    lighter-fits (distinct (in_all others (items xs))) (items xs)
    (lighter-twice (distinct (in_all others (items xs))) (in_all others (items xs)) (items xs)
    (distinct-lighter [] (in_all others (items xs))) (filter-lighter (λ x. list_all (λ zs. is_among zs x) others) (items xs)))
    (subst (λ l. Fits (list l)) (sym (trees-items xs)) fit)

with-list : (n : ℕ) (xs : ValueTrees) (others : List (List ValueTree)) (t : ValueTree) →
    given (given (given (list_of Fun.Intersection n (Some t)) (λ y. Ok (others ++ y ∷ []))) (λ ls. Ok (items xs ∷ ls)))
    (λ lists. bounded (list (trees (common_items lists))))
    ≡ at_place n (intersection_row (list (trees (common_items (items xs ∷ others))) ∷ t ∷ []))
with-list n xs others (list ys) =
    ap (λ l. bounded (list (trees l))) (common-more (items xs) (items ys) others)
    ∙ sym (place-bounded n (list (trees (common_items (items (trees (common_items (items xs ∷ others))) ∷ items ys ∷ [])))))
with-list n xs others t = refl

with-lists : (n : ℕ) (xs : ValueTrees) (t : ValueTree) → Fits (list xs) → (r : Result (List (List ValueTree)) EvalFault) →
    given (given (given r (λ ls. given (list_of Fun.Intersection n (Some t)) (λ y. Ok (ls ++ y ∷ [])))) (λ ls. Ok (items xs ∷ ls)))
    (λ lists. bounded (list (trees (common_items lists))))
    ≡ given (given (given r (λ ls. Ok (items xs ∷ ls))) (λ lists. bounded (list (trees (common_items lists)))))
    (λ u. at_place n (intersection_row (u ∷ t ∷ [])))
with-lists n xs t fit (Err f) = refl
with-lists n xs t fit (Ok others) =
    with-list n xs others t
    ∙ sym (ap (λ a. given a (λ u. at_place n (intersection_row (u ∷ t ∷ []))))
    (bounded-fits (list (trees (common_items (items xs ∷ others)))) (common-fit xs others fit)))

pub lists-more : (xs : ValueTrees) (ts : List ValueTree) (t : ValueTree) → Fits (list xs) →
    lists_together Fun.Intersection common_items ((list xs ∷ ts) ++ t ∷ [])
    ≡ given (lists_together Fun.Intersection common_items (list xs ∷ ts))
    (λ u. at_place (length (list xs ∷ ts)) (intersection_row (u ∷ t ∷ [])))
lists-more xs ts t fit =
    let place : 1 + length ts ≡ length (list xs ∷ ts) = omega arith in
    ap (λ a. given (given a (λ ls. Ok (items xs ∷ ls))) (λ lists. bounded (list (trees (common_items lists)))))
    (each-snoc (list_of Fun.Intersection) 1 ts t
    ∙ ap (λ n. given (each_from (list_of Fun.Intersection) 1 ts)
    (λ ls. given (list_of Fun.Intersection n (Some t)) (λ y. Ok (ls ++ y ∷ []))))
    place)
    ∙ with-lists (length (list xs ∷ ts)) xs t fit (each_from (list_of Fun.Intersection) 1 ts)
