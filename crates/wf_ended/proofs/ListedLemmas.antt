-- Two lists in the order of their keys that list one table are one list.
use Rattle.std.proofs.Common.{◌≡◌, ℕ, true, List, [], ◌∷◌, map, Option, Some, None, option_map, inl, inr}
use Rattle.std.proofs.Common.{Ordering, Less, is_eq}
use Rattle.std.proofs.Common.{refl, sym, ap, ◌∙◌, subst}
use Rattle.std.specs.Cmp.{IsTotalOrder}
use Rattle.std.specs.Cmp.Lexicographic.{slice_cmp}
use Rattle.std.specs.List.{AllByRecursion}
use Rattle.std.specs.Ordering.{nat_cmp, ordering_reverse}
use Rattle.std.proofs.lemmas.Cmp.{nat_list_cmp_total, tied_itself}
use Rattle.std.proofs.lemmas.Map.Text.{is_eq-slice_cmp}
use Rattle.std.proofs.lemmas.Option.{none-some}
use Rattle.std.proofs.lemmas.Slice.Eq.{bytes_eq-Decides}
use Rattle.wf_lists.specs.KeyOrder.{IsInKeyOrder, find_key}
use Rattle.wf_lists.proofs.KeyOrderLemmas.{same_entries}
use Rattle.wf_layers.specs.Address.{Address, Table, address}
use Rattle.wf_layers.specs.Listed.{Among, Lists}
use Rattle.wf_layers.specs.Record.{key}
use Rattle.wf_layers.proofs.Basics.{two, when, unless}

pub all_among : {X : Type 0} (P : X → Type 0) (xs : List X) (x : X) → AllByRecursion P xs → Among xs x → P x
all_among P [] x all i = absurd i
all_among P (z ∷ xs) x all (inl e) = subst P e all.0
all_among P (z ∷ xs) x all (inr i) = all_among P xs x all.1 i

pub of_mapped : {X Y : Type 0} (f : X → Y) (xs : List X) (y : Y) → Among (map f xs) y → (x : X) × Among xs x × (f x ≡ y)
of_mapped f [] y i = absurd i
of_mapped f (z ∷ xs) y (inl e) = (z, inl refl, e)
of_mapped f (z ∷ xs) y (inr i) = let h = of_mapped f xs y i in (h.0, inr h.1, h.2)

pub in_mapped : {X Y : Type 0} (f : X → Y) (xs : List X) (x : X) → Among xs x → Among (map f xs) (f x)
in_mapped f [] x i = absurd i
in_mapped f (z ∷ xs) x (inl e) = inl (ap f e)
in_mapped f (z ∷ xs) x (inr i) = inr (in_mapped f xs x i)

-- ---- what is among the items is found by its key, and the other way round

module _ {K X : Type 0} {cmp : K → K → Ordering} (total : IsTotalOrder cmp) (at : X → K) where
  pub among_found : (xs : List X) → IsInKeyOrder cmp at xs → (x : X) → Among xs x → find_key cmp at (at x) xs ≡ Some x
  among_found [] order x i = absurd i
  among_found (y ∷ xs) order x (inl e) = rw (← e, tied_itself total (at y)) refl
  among_found (y ∷ xs) order x (inr i) =
      let above = total.antisymm (at x) (at y) ∙ ap ordering_reverse (all_among (λ z. cmp (at y) (at z) ≡ Less) xs x order.0 i) in
      rw above (among_found xs order.1 x i)

  pub found_among : (k : K) (xs : List X) (x : X) → find_key cmp at k xs ≡ Some x → Among xs x × (is_eq (cmp k (at x)) ≡ true)
  found_among k [] x is = absurd (none-some x is)
  found_among k (y ∷ xs) x is = elim (two (is_eq (cmp k (at y)))) [
    | inl t ↦
        let it : Some y ≡ Some x = sym (when (is_eq (cmp k (at y))) (Some y) (find_key cmp at k xs) t) ∙ is in
        let same : y ≡ x = cc (it) in
        (inl same, subst (λ (z : X). is_eq (cmp k (at z)) ≡ true) same t)
    | inr f ↦
        let rest = found_among k xs x (sym (unless (is_eq (cmp k (at y))) (Some y) (find_key cmp at k xs) f) ∙ is) in
        (inr rest.0, rest.1)
  ]

-- keys that compare as equal are the same
pub same_key : (k l : List ℕ) → is_eq (slice_cmp nat_cmp k l) ≡ true → k ≡ l
same_key k l t = (bytes_eq-Decides k l).0 (sym (is_eq-slice_cmp k l) ∙ t)

-- ---- entries of a table

module _ {Row : Type 0} (t : Table Row) where
  abbrev Entry : Type 0
  Entry = Address × Row

  abbrev key_of : Entry → List ℕ
  key_of e = key e.0

  abbrev entry_of : Address → Row → Entry
  entry_of x r = (x, r)

  abbrev entry_at : List ℕ → Option Entry
  entry_at [] = None
  entry_at (n ∷ i) = option_map (λ (r : Row). entry_of (address n i) r) (t (address n i))

  abbrev ListsIt : List Entry → Type 0
  ListsIt = Lists (λ (e : Entry). e.0) (λ e. e.1) t

  none_there : (xs : List Entry) → IsInKeyOrder (slice_cmp nat_cmp) key_of xs → ListsIt xs → (k : List ℕ)
      → find_key (slice_cmp nat_cmp) key_of k xs ≡ None → None ≡ entry_at k
  none_there xs order lists [] none = refl
  none_there xs order lists (n ∷ i) none = go (t (address n i)) refl
    where
      go : (o : Option Row) → t (address n i) ≡ o → None ≡ option_map (λ (r : Row). entry_of (address n i) r) o
      go None is = refl
      go (Some r) is =
          let h = lists.all (address n i) r is in
          let found = among_found nat_list_cmp_total key_of xs order h.0 h.1 in
          absurd (none-some h.0 (sym none ∙ ap (λ (x : Address). find_key (slice_cmp nat_cmp) key_of (key x) xs) (sym h.2) ∙ found))

  own_there : (xs : List Entry) → ListsIt xs → (e : Entry) → Among xs e → (k : List ℕ) → k ≡ key_of e → Some e ≡ entry_at k
  own_there xs lists e i k is =
      sym (ap entry_at is ∙ ap (option_map (λ (r : Row). entry_of e.0 r)) (lists.each e i))

  found_at : (xs : List Entry) → IsInKeyOrder (slice_cmp nat_cmp) key_of xs → ListsIt xs → (k : List ℕ)
      → find_key (slice_cmp nat_cmp) key_of k xs ≡ entry_at k
  found_at xs order lists k = go (find_key (slice_cmp nat_cmp) key_of k xs) refl
    where
      go : (o : Option Entry) → find_key (slice_cmp nat_cmp) key_of k xs ≡ o → o ≡ entry_at k
      go None is = none_there xs order lists k is
      go (Some e) is =
          let h = found_among nat_list_cmp_total key_of k xs e is in
          own_there xs lists e h.0 k (same_key k (key_of e) h.1)

  pub one_list : (xs ys : List Entry) → IsInKeyOrder (slice_cmp nat_cmp) key_of xs → ListsIt xs
      → IsInKeyOrder (slice_cmp nat_cmp) key_of ys → ListsIt ys → xs ≡ ys
  one_list xs ys order lists order' lists' =
      same_entries nat_list_cmp_total key_of xs ys order order' (λ k. found_at xs order lists k ∙ sym (found_at ys order' lists' k))
