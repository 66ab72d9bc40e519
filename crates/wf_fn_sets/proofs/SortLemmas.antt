-- A stable sort of items by their keys is the items put in turn, each behind those that it isn't below.
use Rattle.std.proofs.Common.{◌≡◌, List, [], ◌∷◌, map, refl, sym, ◌∙◌, ap, cond, Bool, true, false, ◌||◌, subst}
use Rattle.std.proofs.lemmas.Cmp.{on_total}
use Rattle.std.specs.Cmp.{IsTotalOrder}
use Rattle.std.specs.List.{AllByRecursion, filter, list_all}
use Rattle.std.specs.List.Sorted.{IsSortedByKey, IsStableByKey}
use Rattle.std.specs.Prelude.{Option, Some, None, ℕ, unwrap_or, ◌&&◌}
use Rattle.std.specs.declared.cmp.Ordering.{Ordering}
use Rattle.wf_val.specs.ValueOrder.{order}
use Rattle.wf_val.specs.ValueOrderLaws.{order-total}
use Rattle.wf_val.specs.ValueTree.{ValueTree, null, boolean, number, text, list, object}
use Rattle.wf_val.specs.Seen.{tree}
use Rattle.wf_fn_sets.specs.SortKeys.{key_tree, number_or_text, keyed_trees}
use Rattle.wf_fn_sets.specs.contracts.sorting.SortKeyOrd.TheImpl.{ghosts}
use Rattle.wf_fn_sets.specs.declared.sorting.Keyed.{Keyed}
use Rattle.wf_fn_sets.specs.declared.sorting.SortKey.{SortKey}
use Rattle.wf_fn_sets.specs.Sorting.{sorted, sort_key, judged_by, is_number, is_text, can_be_sorted}
use Rattle.wf_fn_sets.proofs.Ascending as pairs
use Rattle.wf_fn_sets.proofs.SortLaws as items

-- an item with its key, and how two of them stand
abbrev pub Pair : Type 0
Pair = ValueTree × ValueTree

abbrev pub pair_order : Pair → Pair → Ordering
pair_order p q = order p.0 q.0

pub pair-total : IsTotalOrder pair_order
pair-total = on_total (λ p. p.0) order-total

filter-mapped : {X Y : Type 0} (f : X → Y) (test : Y → Bool) (xs : List X) → filter test (map f xs) ≡ map f (filter (λ x. test (f x)) xs)
filter-mapped f test [] = refl
filter-mapped f test (x ∷ xs) = at (test (f x)) (filter-mapped f test xs)
  where
    at : (b : Bool) → filter test (map f xs) ≡ map f (filter (λ x. test (f x)) xs)
        → cond b (f x ∷ filter test (map f xs)) (filter test (map f xs))
        ≡ map f (cond b (x ∷ filter (λ x. test (f x)) xs) (filter (λ x. test (f x)) xs))
    at true rest = ap (λ l. f x ∷ l) rest
    at false rest = rest

all-mapped : {X Y : Type 0} (f : X → Y) (P : Y → Type 0) (xs : List X) → AllByRecursion (λ x. P (f x)) xs → AllByRecursion P (map f xs)
all-mapped f P [] all = tt
all-mapped f P (x ∷ xs) all = (all.0, all-mapped f P xs all.1)

all-unmapped : {X Y : Type 0} (f : X → Y) (P : Y → Type 0) (xs : List X) → AllByRecursion P (map f xs) → AllByRecursion (λ x. P (f x)) xs
all-unmapped f P [] all = tt
all-unmapped f P (x ∷ xs) all = (all.0, all-unmapped f P xs all.1)

module _ (key : ValueTree → ValueTree) where
  abbrev pub paired : ValueTree → Pair
  paired t = (key t, t)

  paired-ascending : (ts : List ValueTree) → items.IsAscending key ts → pairs.IsAscending pair_order pair-total (map paired ts)
  paired-ascending [] up = tt
  paired-ascending (t ∷ ts) up = (all-mapped paired _ ts up.0, paired-ascending ts up.1)

  -- items with their keys, in order, where those that tie stand as in a list, are that list sorted
  pub sorted-pairs : (es : List Pair) (ts : List ValueTree) → pairs.IsAscending pair_order pair-total es
      → AllByRecursion (pairs.StandAlike pair_order pair-total es (map paired ts)) es
      → AllByRecursion (λ t. pairs.StandAlike pair_order pair-total es (map paired ts) (paired t)) ts
      → es ≡ map paired (sorted key ts)
  sorted-pairs es ts up one other =
      let alike : (p : Pair) → pairs.StandAlike pair_order pair-total es (map paired ts) p
      → pairs.StandAlike pair_order pair-total es (map paired (sorted key ts)) p =
      λ p h. h ∙ filter-mapped paired (pairs.is_tied pair_order pair-total p) ts
      ∙ ap (map paired) (sym (items.sorted-tied key p.0 ts))
      ∙ sym (filter-mapped paired (pairs.is_tied pair_order pair-total p) (sorted key ts)) in
      pairs.same-from_ascending pair_order pair-total es (map paired (sorted key ts)) up
      (paired-ascending (sorted key ts) (items.sorted-ascending key ts))
      (pairs.all-from _ _ es alike one)
      (all-mapped paired _ (sorted key ts) (items.sorted-all key _ ts (pairs.all-from _ _ ts (λ t. alike (paired t)) other)))

  map-second : (ts : List ValueTree) → map (λ (p : Pair). p.1) (map paired ts) ≡ ts
  map-second [] = refl
  map-second (t ∷ ts) = ap (λ l. t ∷ l) (map-second ts)

  -- what a stable sort of entries by their keys leaves
  pub sorted-entries : {E : Type 0} (pair : E → Pair) (es sorted_es : List E) (ts : List ValueTree) → map pair es ≡ map paired ts
      → IsSortedByKey (λ e. (pair e).0) order sorted_es → IsStableByKey (λ e. (pair e).0) order es sorted_es
      → map (λ e. (pair e).1) sorted_es ≡ sorted key ts
  sorted-entries {E} pair es sorted_es ts are up stable =
      let tied : Pair → Pair → Bool = pairs.is_tied pair_order pair-total in
      let alike : (e : E) → pairs.StandAlike pair_order pair-total (map pair sorted_es) (map paired ts) (pair e) =
      λ e. filter-mapped pair (tied (pair e)) sorted_es ∙ ap (map pair) (stable e) ∙ sym (filter-mapped pair (tied (pair e)) es)
      ∙ ap (filter (tied (pair e))) are in
      let all = subst (AllByRecursion (pairs.StandAlike pair_order pair-total (map pair sorted_es) (map paired ts))) are
      (all-mapped pair _ es (pairs.all-everywhere _ es alike)) in
      map-first pair sorted_es
      ∙ ap (map (λ (p : Pair). p.1)) (sorted-pairs (map pair sorted_es) ts
      (mapped-ascending pair sorted_es (pairs.ascending-from_sorted _ (on_total pair pair-total) sorted_es up))
      (all-mapped pair _ sorted_es (pairs.all-everywhere _ sorted_es alike)) (all-unmapped paired _ ts all))
      ∙ map-second (sorted key ts)
    where
      map-first : {E : Type 0} (pair : E → Pair) (es : List E) → map (λ e. (pair e).1) es ≡ map (λ (p : Pair). p.1) (map pair es)
      map-first pair [] = refl
      map-first pair (e ∷ es) = ap (λ l. (pair e).1 ∷ l) (map-first pair es)

      mapped-ascending : {E : Type 0} (pair : E → Pair) (es : List E)
          → pairs.IsAscending (λ e f. pair_order (pair e) (pair f)) (on_total pair pair-total) es
          → pairs.IsAscending pair_order pair-total (map pair es)
      mapped-ascending pair [] up = tt
      mapped-ascending pair (e ∷ es) up = (all-mapped pair _ es up.0, mapped-ascending pair es up.1)

-- items that are sorted by numbers, or by texts
number-itself : (t : ValueTree) → is_number (Some t) ≡ true → number_or_text t ≡ t
number-itself null is = absurd (cc)
number-itself (boolean b) is = absurd (cc)
number-itself (number n) is = refl
number-itself (text s) is = absurd (cc)
number-itself (list ts) is = absurd (cc)
number-itself (object ms) is = absurd (cc)

text-itself : (t : ValueTree) → is_text (Some t) ≡ true → number_or_text t ≡ t
text-itself null is = absurd (cc)
text-itself (boolean b) is = absurd (cc)
text-itself (number n) is = absurd (cc)
text-itself (text s) is = refl
text-itself (list ts) is = absurd (cc)
text-itself (object ms) is = absurd (cc)

sorted-by_number : (o : Option ValueTree) (t : ValueTree) → is_number o ≡ true → number_or_text (unwrap_or o t) ≡ unwrap_or o t
sorted-by_number None t is = absurd (cc)
sorted-by_number (Some u) t is = number-itself u is

sorted-by_text : (o : Option ValueTree) (t : ValueTree) → is_text o ≡ true → number_or_text (unwrap_or o t) ≡ unwrap_or o t
sorted-by_text None t is = absurd (cc)
sorted-by_text (Some u) t is = text-itself u is

both-true : (a b : Bool) → a && b ≡ true → (a ≡ true) × (b ≡ true)
both-true true b is = (refl, is)
both-true false b is = absurd (cc)

same-pairs : (name : Option (List ℕ)) (test : Option ValueTree → Bool)
    → ((o : Option ValueTree) (t : ValueTree) → test o ≡ true → number_or_text (unwrap_or o t) ≡ unwrap_or o t) → (ts : List ValueTree)
    → list_all (λ t. test (judged_by name t)) ts ≡ true
    → map (λ t. (number_or_text (sort_key name t), t)) ts ≡ map (paired (sort_key name)) ts
same-pairs name test means [] all = refl
same-pairs name test means (t ∷ ts) all =
    let both = both-true (test (judged_by name t)) (list_all (λ u. test (judged_by name u)) ts) all in
    ap (λ u. (u, t) ∷ map (λ t. (number_or_text (sort_key name t), t)) ts) (means (judged_by name t) t both.0)
    ∙ ap (λ l. paired (sort_key name) t ∷ l) (same-pairs name test means ts both.1)

pub sortable-pairs : (name : Option (List ℕ)) (ts : List ValueTree) → can_be_sorted name ts ≡ true
    → map (λ t. (number_or_text (sort_key name t), t)) ts ≡ map (paired (sort_key name)) ts
sortable-pairs name ts can = at (list_all (λ t. is_number (judged_by name t)) ts) refl can
  where
    at : (b : Bool) → b ≡ list_all (λ t. is_number (judged_by name t)) ts → b || list_all (λ t. is_text (judged_by name t)) ts ≡ true
        → map (λ t. (number_or_text (sort_key name t), t)) ts ≡ map (paired (sort_key name)) ts
    at true is can = same-pairs name is_number sorted-by_number ts (sym is)
    at false is can = same-pairs name is_text sorted-by_text ts can

-- the order that is derived for keys is that of the values
key-order : (j k : SortKey) → ghosts.cmp j k ≡ order (key_tree j) (key_tree k)
key-order (SortKey.Number m) (SortKey.Number n) = refl
key-order (SortKey.Number m) (SortKey.Text t) = refl
key-order (SortKey.Text s) (SortKey.Number n) = refl
key-order (SortKey.Text s) (SortKey.Text t) = refl

-- what a stable sort by keys leaves
pub sorted-keys : (name : Option (List ℕ)) (ts : List ValueTree) (es after : List Keyed) → can_be_sorted name ts ≡ true
    → map keyed_trees es ≡ map (λ t. (number_or_text (sort_key name t), t)) ts
    → IsSortedByKey (λ e. e.key) ghosts.cmp after → IsStableByKey (λ e. e.key) ghosts.cmp es after
    → map (λ e. tree e.item.now) after ≡ sorted (sort_key name) ts
sorted-keys name ts es after can are up stable =
    let same : ghosts.cmp ≡ (λ j k. order (key_tree j) (key_tree k)) = λ i j k. key-order j k i in
    sorted-entries (sort_key name) keyed_trees es after ts (are ∙ sortable-pairs name ts can)
    (subst (λ cmp. IsSortedByKey (λ e. e.key) cmp after) same up)
    (subst (λ cmp. IsStableByKey (λ e. e.key) cmp es after) same stable)
