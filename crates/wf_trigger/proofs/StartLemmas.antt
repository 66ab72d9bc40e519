-- The starts of a split: how many they are, which stands at a place, and that a body which is replaced doesn't matter.
use Rattle.std.proofs.Common.{◌≡◌, ◌↔◌, ◌⊎◌, inl, inr, ℕ, zero, suc, ◌+◌, ◌<◌, List, [], ◌∷◌, Bool, true, false, length, Option, Some, None}
use Rattle.std.proofs.Common.{option_map, is_some, slice_get, Ordering, Less, Equal, Greater, refl, ap, ◌∙◌, subst, add-zero, arith}
use Rattle.std.specs.Cmp.{IsTotalOrder}
use Rattle.std.specs.List.{AllByRecursion}
use Rattle.std.specs.Prelude.{codes}
use Rattle.std.proofs.lemmas.Cmp.{nat_list_cmp_total}
use Rattle.std.proofs.lemmas.Option.{none-some}
use Rattle.wf_lists.specs.KeyOrder.{IsInKeyOrder, put_key, without_key}
use Rattle.wf_trigger.specs.Shared.{kept_outputs}
use Rattle.wf_trigger.specs.Starts.{Shared, starts_from, starts_of, start_of_item, trigger_value, with_body}
use Rattle.wf_val.specs.Get.{name_of}
use Rattle.wf_val.specs.NameOrder.{put_named, without_named}
use Rattle.wf_val.specs.ValueTree.{ValueTree, null, boolean, number, text, list, object, members, pairs}
use Rattle.wf_val.specs.WellFormed.{IsWellFormed}
use Rattle.wf_val.proofs.ValueTreeLemmas.{pairs-members}

-- ---- how many, and which

pub length_starts : (s : Shared) (j : ℕ) (ts : List ValueTree) → length (starts_from s j ts) ≡ length ts
length_starts s j [] = refl
length_starts s j (t ∷ ts) = ap suc (length_starts s (suc j) ts)

starts_from-at : (s : Shared) (j k : ℕ) (ts : List ValueTree) (t : ValueTree) → slice_get ts k ≡ Some t
    → slice_get (starts_from s j ts) k ≡ Some (start_of_item s (j + k) t)
starts_from-at s j k [] t is = cc
starts_from-at s j zero (u ∷ ts) t is = rw add-zero (ap (option_map (start_of_item s j)) is)
starts_from-at s j (suc k) (u ∷ ts) t is =
    subst (λ n. slice_get (starts_from s (suc j) ts) k ≡ Some (start_of_item s n t)) (omega arith) (starts_from-at s (suc j) k ts t is)

pub item_at : (s : Shared) (k : ℕ) (ts : List ValueTree) (holds : Bool) (t : ValueTree) → k < length (starts_of s (Some ts) holds)
    → slice_get ts k ≡ Some t → slice_get (starts_of s (Some ts) holds) k ≡ Some (start_of_item s k t)
item_at s k ts true t within is =
    subst (λ n. slice_get (starts_from s 0 ts) k ≡ Some (start_of_item s n t)) (omega arith) (starts_from-at s 0 k ts t is)
item_at s k ts false t within is = absurd (omega (arith, within))

-- a run of a split has its item
pub item_there : (s : Shared) (k : ℕ) (ts : List ValueTree) (holds : Bool) → k < length (starts_of s (Some ts) holds)
    → None ≡ slice_get ts k → ⊥
item_there s k ts false within none = omega (arith, within)
item_there s k ts true within none = there ts k (subst (λ n. k < n) (length_starts s 0 ts) within) none
  where
    there : (us : List ValueTree) (n : ℕ) → n < length us → None ≡ slice_get us n → ⊥
    there [] n lt is = omega (arith, lt)
    there (u ∷ us) zero lt is = none-some u is
    there (u ∷ us) (suc n) lt is = there us n (omega (arith, lt)) is

none_of : (s : Shared) (split : Option (List ValueTree)) (holds : Bool) → starts_of s split holds ≡ [] → (holds ≡ false) ⊎ (split ≡ Some [])
none_of s split false none = inl refl
none_of s None true none = absurd (cc)
none_of s (Some []) true none = inr refl
none_of s (Some (t ∷ ts)) true none = absurd (cc)

of_none : (s : Shared) (split : Option (List ValueTree)) (holds : Bool) → (holds ≡ false) ⊎ (split ≡ Some []) → starts_of s split holds ≡ []
of_none s split holds (inl is) = rw is refl
of_none s split false (inr is) = refl
of_none s split true (inr is) = rw is refl

pub none_start : (s : Shared) (split : Option (List ValueTree)) (holds : Bool)
    → (starts_of s split holds ≡ []) ↔ ((holds ≡ false) ⊎ (split ≡ Some []))
none_start s split holds = (none_of s split holds, of_none s split holds)

-- ---- a body that is replaced

module _ {K X : Type 0} {cmp : K → K → Ordering} (total : IsTotalOrder cmp) (key : X → K) where
  absent : (k : K) (xs : List X) → AllByRecursion (λ x. cmp k (key x) ≡ Less) xs → without_key cmp key k xs ≡ xs
  absent k [] all = refl
  absent k (x ∷ xs) all = rw all.0 (ap (λ ys. x ∷ ys) (absent k xs all.1))

  in_front : (x : X) (xs : List X) → AllByRecursion (λ y. cmp (key x) (key y) ≡ Less) xs → put_key cmp key x xs ≡ x ∷ xs
  in_front x [] all = refl
  in_front x (y ∷ xs) all = rw all.0 refl

  below_all : (j k : K) (xs : List X) → cmp j k ≡ Less → AllByRecursion (λ x. cmp k (key x) ≡ Less) xs
      → AllByRecursion (λ x. cmp j (key x) ≡ Less) xs
  below_all j k [] less all = tt
  below_all j k (x ∷ xs) less all = (total.trans j k (key x) less all.0, below_all j k xs less all.1)

  tied_all : (j k : K) (xs : List X) → cmp j k ≡ Equal → AllByRecursion (λ x. cmp k (key x) ≡ Less) xs
      → AllByRecursion (λ x. cmp j (key x) ≡ Less) xs
  tied_all j k [] tie all = tt
  tied_all j k (x ∷ xs) tie all = (total.congr j k (key x) tie ∙ all.0, tied_all j k xs tie all.1)

  put-without_at : (x y : X) (ys : List X) (o : Ordering) → cmp (key x) (key y) ≡ o → AllByRecursion (λ z. cmp (key y) (key z) ≡ Less) ys
      → put_key cmp key x (without_key cmp key (key x) ys) ≡ put_key cmp key x ys
      → put_key cmp key x (without_key cmp key (key x) (y ∷ ys)) ≡ put_key cmp key x (y ∷ ys)
  put-without_at x y ys Less is after later = rw (is, absent (key x) ys (below_all (key x) (key y) ys is after), is) refl
  put-without_at x y ys Equal is after later = rw is (in_front x ys (tied_all (key x) (key y) ys is after))
  put-without_at x y ys Greater is after later = rw (is, is) (ap (λ zs. y ∷ zs) later)

  put-without : (x : X) (ys : List X) → IsInKeyOrder cmp key ys → put_key cmp key x (without_key cmp key (key x) ys) ≡ put_key cmp key x ys
  put-without x [] order = refl
  put-without x (y ∷ ys) order = put-without_at x y ys (cmp (key x) (key y)) refl order.0 (put-without x ys order.1)

pub with_body-kept : (t item : ValueTree) → IsWellFormed t → with_body (kept_outputs true t) item ≡ with_body t item
with_body-kept null item well = refl
with_body-kept (boolean b) item well = refl
with_body-kept (number n) item well = refl
with_body-kept (text s) item well = refl
with_body-kept (list ts) item well = refl
with_body-kept (object ms) item well =
    ap (λ ns. object (members (put_named name_of (codes "body", item) ns))) (pairs-members (without_named name_of (codes "body")
    (pairs ms)))
    ∙ ap (λ ns. object (members ns)) (put-without nat_list_cmp_total name_of (codes "body", item) (pairs ms) well.0)

-- what runs share, with other outputs of the trigger
abbrev pub with_outputs : Shared → ValueTree → Shared
with_outputs s t = record { run = s.run; seed = s.seed; name = s.name; outputs = t; parameters = s.parameters }

starts_from-kept : (s : Shared) (j : ℕ) (ts : List ValueTree) → IsWellFormed s.outputs
    → starts_from (with_outputs s (kept_outputs true s.outputs)) j ts ≡ starts_from s j ts
starts_from-kept s j [] well = refl
starts_from-kept s j (t ∷ ts) well =
    ap (λ o. (record {
      run = (start_of_item s j t).run;
      seed = (start_of_item s j t).seed;
      trigger = trigger_value s.name o;
      parameters = s.parameters;
    }) ∷ starts_from (with_outputs s (kept_outputs true s.outputs)) (suc j) ts) (with_body-kept s.outputs t well)
    ∙ ap (λ ss. start_of_item s j t ∷ ss) (starts_from-kept s (suc j) ts well)

pub starts_of-kept : (s : Shared) (split : Option (List ValueTree)) (holds : Bool) → IsWellFormed s.outputs
    → starts_of (with_outputs s (kept_outputs (is_some split) s.outputs)) split holds ≡ starts_of s split holds
starts_of-kept s split false well = refl
starts_of-kept s None true well = refl
starts_of-kept s (Some ts) true well = starts_from-kept s 0 ts well

-- starts that keep what they have to keep are those of what the runs share
pub kept-starts : (s : Shared) (run seed : List ℕ) (name outputs : ValueTree) (split : Option (List ValueTree)) (holds : Bool)
    → IsWellFormed s.outputs → run ≡ s.run → seed ≡ s.seed → name ≡ s.name → outputs ≡ kept_outputs (is_some split) s.outputs
    → starts_of (record { run = run; seed = seed; name = name; outputs = outputs; parameters = s.parameters }) split holds
    ≡ starts_of s split holds
kept-starts s run seed name outputs split holds well same_run same_seed same_name kept =
    rw (same_run, same_seed, same_name, kept) (starts_of-kept s split holds well)
