-- Answers found by a binary search.
use Rattle.std.proofs.Common.{◌≡◌, ℕ, List, length, get_or, map, Some, None, option_map, Ok, Err, sym, ap, ◌∙◌}
use Rattle.std.specs.List.Sorted.{IsBinarySearchResult, IsSearchInRange}
use Rattle.wf_lists.specs.KeyOrder.{IsInKeyOrder}
use Rattle.wf_lists.proofs.KeyOrderLemmas.{searched_key, find_key-at_place, find_key-in_gap, find_key-map, in_order-on}
use Rattle.wf_answers.specs.AnswerSeen.{answer_tree, answer_order}
use Rattle.wf_answers.specs.AnswerTree.{Key, key_cmp, key_cmp_total, key_of, find_answer}
use Rattle.wf_answers.specs.declared.answer.Answer.{Answer}

-- what an answer as it is held is for
abbrev pub key_held : Answer → Key
key_held a = key_of (answer_tree a)

pub found : (k : Key) (xs : List Answer) (i : ℕ) (d : Answer) → IsInKeyOrder answer_order (λ a. a) xs → IsSearchInRange (Ok i) (length xs)
    → IsBinarySearchResult (λ a. key_cmp (key_held a) k) xs (Ok i)
    → find_answer k (map answer_tree xs) ≡ Some (answer_tree (get_or xs i d))
found k xs i d order within position =
    let at = searched_key key_cmp_total key_held k xs (Ok i) (in_order-on key_cmp key_held (λ (a : Answer). a) xs order) within position in
    sym (find_key-map key_cmp key_of answer_tree k xs)
    ∙ ap (option_map answer_tree) (find_key-at_place key_cmp_total key_held k xs i d at.place)

pub not_found : (k : Key) (xs : List Answer) (i : ℕ) → IsInKeyOrder answer_order (λ a. a) xs → IsSearchInRange (Err i) (length xs)
    → IsBinarySearchResult (λ a. key_cmp (key_held a) k) xs (Err i)
    → find_answer k (map answer_tree xs) ≡ None
not_found k xs i order within position =
    let at = searched_key key_cmp_total key_held k xs (Err i) (in_order-on key_cmp key_held (λ (a : Answer). a) xs order) within position in
    sym (find_key-map key_cmp key_of answer_tree k xs) ∙ ap (option_map answer_tree) (find_key-in_gap key_cmp_total key_held k xs i at.gap)
