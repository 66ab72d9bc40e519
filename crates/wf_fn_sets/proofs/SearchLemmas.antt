-- What a binary search among values in order finds.
use Rattle.std.proofs.Common.{◌≡◌, ℕ, zero, suc, ◌<◌, List, [], ◌∷◌, length, map, get_or, refl, sym, ◌∙◌, ap, arith, Bool, true, false}
use Rattle.std.proofs.Common.{◌||◌, is_ok, ltb, Result, Ok, Err}
use Rattle.std.proofs.lemmas.Bool.Decides.{nat_tests}
use Rattle.std.proofs.lemmas.List.Sorted.{searchable_from_sorted, list_any-IsPermutation}
use Rattle.std.specs.List.Sorted.{IsSorted, IsBinarySearchResult, IsPartitionPoint, IsPermutation, IsSearchInRange}
use Rattle.std.specs.Ordering.{is_eq}
use Rattle.std.specs.declared.cmp.Ordering.TheVariants.{Less, Greater}
use Rattle.wf_val.specs.ValueOrder.{order}
use Rattle.wf_val.specs.ValueTree.{ValueTree}
use Rattle.wf_fn_sets.specs.Keys.{key_tree, key_cmp, key_total}
use Rattle.wf_fn_list.specs.Membership.{is_among}
use Rattle.wf_fn_sets.specs.declared.key.Key.{Key}
use Rattle.wf_fn_list.proofs.MembershipLemmas.{or-true, or-left, among-mapped}
use Rattle.wf_fn_sets.proofs.SetLaws.{reversed-equal}

turned : (j k : Key) → is_eq (key_cmp j k) ≡ is_eq (key_cmp k j)
turned j k = ap is_eq (key_total.antisymm j k) ∙ reversed-equal (key_cmp k j)

or-neither : (a b : Bool) → a ≡ false → b ≡ false → a || b ≡ false
or-neither true b one other = absurd (cc)
or-neither false b one other = other

one-among : (ks : List Key) (x : Key) (i : ℕ) → i < length ks → ((d : Key) → is_eq (key_cmp (get_or ks i d) x) ≡ true)
    → is_among (map key_tree ks) (key_tree x) ≡ true
one-among [] x i lt is = absurd (omega (arith, lt))
one-among (k ∷ ks) x zero lt is =
    or-left (is_eq (key_cmp x k)) (is_among (map key_tree ks) (key_tree x)) (turned x k ∙ is x)
one-among (k ∷ ks) x (suc i) lt is =
    or-true (is_eq (key_cmp x k)) (is_among (map key_tree ks) (key_tree x)) (one-among ks x i (omega (arith, lt)) (λ d. is d))

none-among : (ks : List Key) (x : Key) → ((i : ℕ) (d : Key) → i < length ks → is_eq (key_cmp (get_or ks i d) x) ≡ false)
    → is_among (map key_tree ks) (key_tree x) ≡ false
none-among [] x none = refl
none-among (k ∷ ks) x none =
    or-neither (is_eq (key_cmp x k)) (is_among (map key_tree ks) (key_tree x)) (turned x k ∙ none 0 x (omega arith))
    (none-among ks x (λ i d lt. none (suc i) d (omega (arith, lt))))

apart : (ks : List Key) (x : Key) (i k : ℕ) (d : Key) → IsPartitionPoint (λ j. key_cmp j x ≡ Less) (λ j. key_cmp j x ≡ Greater) ks i
    → k < length ks → is_eq (key_cmp (get_or ks k d) x) ≡ false
apart ks x i k d point lt = at (ltb k i) refl
  where
    at : (b : Bool) → b ≡ ltb k i → is_eq (key_cmp (get_or ks k d) x) ≡ false
    at true is = ap is_eq (point.0 k d (omega arith) (grind (arith, nat_tests)))
    at false is = ap is_eq (point.1 k d (grind (arith, nat_tests)) lt)

pub found-among : (ks : List Key) (x : Key) (r : Result ℕ ℕ) → IsSorted key_cmp ks → IsSearchInRange r (length ks)
    → IsBinarySearchResult (λ k. key_cmp k x) ks r → is_ok r ≡ is_among (map key_tree ks) (key_tree x)
found-among ks x (Ok i) up bound found = sym (one-among ks x i bound (λ d. ap is_eq (found d)))
found-among ks x (Err i) up bound found =
    sym (none-among ks x (λ k d. apart ks x i k d (found (searchable_from_sorted key_total (λ k. k) ks x up))))

-- a list in another order has the same among it
pub among-moved : (ks after : List Key) (x : ValueTree) → IsPermutation ks after → is_among (map key_tree after) x
    ≡ is_among (map key_tree ks) x
among-moved ks after x moved =
    sym (among-mapped key_tree after x) ∙ sym (list_any-IsPermutation (λ k. is_eq (order x (key_tree k))) ks after moved)
    ∙ among-mapped key_tree ks x
