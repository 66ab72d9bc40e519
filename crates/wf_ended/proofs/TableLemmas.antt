-- Rows by instances, in the order of these, are the list of the entries of their table.
use Rattle.std.proofs.Common.{◌≡◌, ℕ, List, ◌∷◌, map, Option, Some, None, option_map, refl, sym, ap, ap₂, subst}
use Rattle.std.specs.Cmp.Lexicographic.{slice_cmp}
use Rattle.std.specs.Ordering.{nat_cmp}
use Rattle.std.proofs.lemmas.Option.{none-some}
use Rattle.wf_lists.specs.KeyOrder.{IsInKeyOrder, find_key}
use Rattle.wf_lists.proofs.KeyOrderLemmas.{in_order-map, in_order-on}
use Rattle.wf_layers.specs.Address.{Address, address}
use Rattle.wf_layers.specs.Listed.{Among, Lists}
use Rattle.wf_layers.specs.Record.{key}
use Rattle.wf_asks.specs.Instances.{address_of, instance_cmp, instance_key, instance_of, instance_total, rows_in}
use Rattle.wf_asks.specs.declared.instance.Instance.{Instance}
use Rattle.wf_asks.specs.declared.known.RowAt.{RowAt}
use Rattle.wf_ended.proofs.ListedLemmas.{among_found, found_among, in_mapped, of_mapped, one_list, same_key}

head : {a b : ℕ} {as' bs : List ℕ} → (a ∷ as') ≡ (b ∷ bs) → a ≡ b
head e = cc (e)

tail : {a b : ℕ} {as' bs : List ℕ} → (a ∷ as') ≡ (b ∷ bs) → as' ≡ bs
tail e = cc (e)

module _ {Row Seen : Type 0} (see : Row → Seen) where
  abbrev place_of : RowAt Row → Instance
  place_of r = r.instance

  abbrev Entry : Type 0
  Entry = Address × Seen

  abbrev pub entry_of : RowAt Row → Entry
  entry_of r = (address_of r.instance, see r.row)

  module _ (rows : List (RowAt Row)) (order : IsInKeyOrder instance_cmp place_of rows) where
    pub entries_ascend : IsInKeyOrder (slice_cmp nat_cmp) (λ (e : Entry). key e.0) (map entry_of rows)
    entries_ascend =
        in_order-map (slice_cmp nat_cmp) (λ (e : Entry). key e.0) entry_of rows
        (in_order-on (slice_cmp nat_cmp) instance_key place_of rows order)

    found_there : (x : Address) (r : RowAt Row) → find_key instance_cmp place_of (instance_of x) rows ≡ Some r
        → Among rows r × (address_of r.instance ≡ x)
    found_there x r is =
        let h = found_among instance_total place_of (instance_of x) rows r is in
        let same : (x.name ∷ x.at) ≡ (r.instance.action ∷ r.instance.at) =
        same_key (instance_key (instance_of x)) (instance_key r.instance) h.1 in
        (h.0, ap₂ (λ (n : ℕ) (i : List ℕ). address n i) (sym (head same)) (sym (tail same)))

    pub entries_list : Lists (λ (e : Entry). e.0) (λ e. e.1) (rows_in see rows) (map entry_of rows)
    entries_list = record {
      each = λ e i.
          let h = of_mapped entry_of rows e i in
          subst (λ (z : Entry). rows_in see rows z.0 ≡ Some z.1) h.2
          (ap (option_map (λ (r : RowAt Row). see r.row)) (among_found instance_total place_of rows order h.0 h.1));
      all = λ x a is. there x a (find_key instance_cmp place_of (instance_of x) rows) refl is;
    }
      where
        there : (x : Address) (a : Seen) (o : Option (RowAt Row)) → find_key instance_cmp place_of (instance_of x) rows ≡ o
            → option_map (λ (r : RowAt Row). see r.row) o ≡ Some a
            → (e : Entry) × Among (map entry_of rows) e × (e.0 ≡ x)
        there x a None found is = absurd (none-some a is)
        there x a (Some r) found is =
            let h = found_there x r found in
            (entry_of r, in_mapped entry_of rows r h.0, h.1)

    pub entries_are : (xs : List Entry) → IsInKeyOrder (slice_cmp nat_cmp) (λ (e : Entry). key e.0) xs
        → Lists (λ (e : Entry). e.0) (λ e. e.1) (rows_in see rows) xs → xs ≡ map entry_of rows
    entries_are xs ascend lists = one_list (rows_in see rows) xs (map entry_of rows) ascend lists entries_ascend entries_list
