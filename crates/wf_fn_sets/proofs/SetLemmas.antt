-- Of values those that are among others.
use Rattle.std.proofs.Common.{◌≡◌, ℕ, ◌+◌, ◌<◌, ◌++◌, List, [], ◌∷◌, length, map, drop, get_or, refl, sym, ◌∙◌, ap, cond, Bool, true, false}
use Rattle.std.proofs.Common.{◌&&◌}
use Rattle.std.proofs.lemmas.Bool.{cond-true, cond-false}
use Rattle.std.specs.List.{list_all, filter}
use Rattle.wf_val.specs.ValueTree.{ValueTree}
use Rattle.wf_fn_list.specs.Membership.{is_among}
use Rattle.wf_fn_sets.proofs.RestLemmas.{one-more, rest-from}

-- values as keys
module _ {K : Type 0} (value : K → ValueTree) where
  -- one more of the values is tested
  pub test-passed : (test : ValueTree → Bool) (found xs : List K) (i : ℕ) (x : K) → i < length xs → x ≡ get_or xs i x → test (value x)
      ≡ false
      → map value found ++ filter test (map value (drop (i + 1) xs)) ≡ map value found ++ filter test (map value (drop i xs))
  test-passed test found xs i x lt is fails =
      ap (λ l. map value found ++ l) (sym (rest-from (λ l. filter test (map value l)) xs i x lt is ∙ cond-false (test (value x)) _ _ fails))

  pub test-kept : (test : ValueTree → Bool) (found more xs : List K) (i : ℕ) (x : K) → i < length xs → x ≡ get_or xs i x → test (value x)
      ≡ true → more ≡ found ++ x ∷ []
      → map value more ++ filter test (map value (drop (i + 1) xs)) ≡ map value found ++ filter test (map value (drop i xs))
  test-kept test found more xs i x lt is passes push =
      one-more value found more x (filter test (map value (drop (i + 1) xs))) push
      ∙ ap (λ l. map value found ++ l) (sym
      (rest-from (λ l. filter test (map value l)) xs i x lt is ∙ cond-true (test (value x)) _ _ passes))

-- what passes one test and then another passes both
filter-filter : (test first : ValueTree → Bool) (xs : List ValueTree) → filter test (filter first xs) ≡ filter (λ x. first x && test x) xs
filter-filter test first [] = refl
filter-filter test first (x ∷ xs) = at (first x) (filter-filter test first xs)
  where
    at : (b : Bool) → filter test (filter first xs) ≡ filter (λ y. first y && test y) xs
        → filter test (cond b (x ∷ filter first xs) (filter first xs))
        ≡ cond (b && test x) (x ∷ filter (λ y. first y && test y) xs) (filter (λ y. first y && test y) xs)
    at true rest = ap (λ l. cond (test x) (x ∷ l) l) rest
    at false rest = rest

-- of the values that a list has, those that the other lists have
pub one-list : (xs ys : List ValueTree) (others : List (List ValueTree))
    → filter (λ x. list_all (λ zs. is_among zs x) others) (filter (is_among ys) xs)
    ≡ filter (λ x. list_all (λ zs. is_among zs x) (ys ∷ others)) xs
one-list xs ys others = filter-filter (λ x. list_all (λ zs. is_among zs x) others) (is_among ys) xs

-- no list is left
pub no-list : (xs : List ValueTree) → filter (λ x. list_all (λ zs. is_among zs x) []) xs ≡ xs
no-list [] = refl
no-list (x ∷ xs) = ap (λ l. x ∷ l) (no-list xs)
