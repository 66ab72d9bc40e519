-- Answers found by a binary search, and answers in order.
use Rattle.std.proofs.Common.{◌≡◌, ℕ, List, [], ◌∷◌, ◌++◌, length, get_or, map, Some, None, option_map, Ordering, Less, Ok, Err, sym, ap, ◌∙◌}
use Rattle.std.specs.List.{AllByRecursion}
use Rattle.std.specs.List.Sorted.{IsBinarySearchResult, IsSearchInRange, IsStrictlySortedBy}
use Rattle.wf_lists.specs.KeyOrder.{IsInKeyOrder, IsAboveKeys}
use Rattle.wf_lists.proofs.KeyOrderLemmas.{searched_key, find_key-at_place, find_key-in_gap, find_key-map, in_order-on}
use Rattle.wf_answers.specs.AnswerSeen.{answer_tree, answer_order}
use Rattle.wf_answers.specs.AnswerTree.{Key, key_cmp, key_cmp_total, key_of, find_answer}
use Rattle.wf_answers.specs.declared.answer.Answer.{Answer}

-- what an answer as it is held is for
abbrev pub key_held : Answer → Key
key_held a = key_of (answer_tree a)

pub found : (k : Key) (xs : List Answer) (i : ℕ) (d : Answer) → IsInKeyOrder answer_order (λ a. a) xs → IsSearchInRange (Ok i) (length xs)
    → IsBinarySearchResult (λ a. key_cmp (key_held a) k) xs (Ok i)
    → find_answer k (map answer_tree xs) ≡ Some (answer_tree (get_or xs i d))
found k xs i d order within position =
    let at = searched_key key_cmp_total key_held k xs (Ok i) (in_order-on key_cmp key_held (λ (a : Answer). a) xs order) within position in
    sym (find_key-map key_cmp key_of answer_tree k xs)
    ∙ ap (option_map answer_tree) (find_key-at_place key_cmp_total key_held k xs i d at.place)

pub not_found : (k : Key) (xs : List Answer) (i : ℕ) → IsInKeyOrder answer_order (λ a. a) xs → IsSearchInRange (Err i) (length xs)
    → IsBinarySearchResult (λ a. key_cmp (key_held a) k) xs (Err i)
    → find_answer k (map answer_tree xs) ≡ None
not_found k xs i order within position =
    let at = searched_key key_cmp_total key_held k xs (Err i) (in_order-on key_cmp key_held (λ (a : Answer). a) xs order) within position in
    sym (find_key-map key_cmp key_of answer_tree k xs) ∙ ap (option_map answer_tree) (find_key-in_gap key_cmp_total key_held k xs i at.gap)

-- in a list in order each item is above those before it
module _ {X : Type 0} (cmp : X → X → Ordering) where
  all-middle : (P : X → Type 0) (xs : List X) (y : X) (zs : List X) → AllByRecursion P (xs ++ y ∷ zs) → P y
  all-middle P [] y zs all = all.0
  all-middle P (x ∷ xs) y zs all = all-middle P xs y zs all.1

  pub above_front : (xs : List X) (y : X) (zs : List X) → IsInKeyOrder cmp (λ x. x) (xs ++ y ∷ zs) → IsAboveKeys cmp (λ x. x) y xs
  above_front [] y zs order = tt
  above_front (x ∷ xs) y zs order = (all-middle (λ z. cmp x z ≡ Less) xs y zs order.0, above_front xs y zs order.1)

  -- the keys of a set are in order
  pub in_order-set : (xs : List X) → IsStrictlySortedBy cmp xs → IsInKeyOrder cmp (λ x. x) xs
  unfolding IsStrictlySortedBy
  in_order-set [] sorted = tt
  in_order-set (x ∷ xs) sorted = (sorted.0, in_order-set xs sorted.1)
