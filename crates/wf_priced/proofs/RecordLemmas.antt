-- The rows of a record tell its table.
use Rattle.std.proofs.Common.{◌≡◌, ℕ, Bool, true, false, cond, List, [], ◌∷◌, Some, refl, sym, ap, ◌∙◌}
use Rattle.std.specs.Cmp.Lexicographic.{slice_cmp}
use Rattle.std.specs.FinMap.{entries, find, get-entries}
use Rattle.std.specs.Ordering.{eq_by_cmp, nat_cmp}
use Rattle.wf_lists.specs.KeyOrder.{IsInKeyOrder, put_key}
use Rattle.wf_lists.proofs.KeyOrderLemmas.{in_order-put}
use Rattle.wf_layers.specs.Address.{Address, Table, address, is_own}
use Rattle.wf_layers.specs.Machine.{or_else}
use Rattle.wf_layers.specs.Meaning.{only}
use Rattle.wf_layers.specs.Record.{HasRecord, key}
use Rattle.wf_asks.specs.Instances.{instance_cmp, instance_of, instance_total, table_of}
use Rattle.wf_meter.proofs.TableLemmas.{own_place, table_put}
use Rattle.wf_meter.proofs.PriceLemmas.{lists_table}
use Rattle.wf_priced.specs.Priced.{TellsRows}
use Rattle.wf_priced.proofs.ListedLemmas.{by_keys}

module _ {Row : Type 0} where
  -- with the row of a key, if it is that of an address
  abbrev with_row : List ℕ → Row → List (Address × Row) → List (Address × Row)
  with_row [] r xs = xs
  with_row (n ∷ i) r xs = put_key instance_cmp (λ (e : Address × Row). instance_of e.0) (address n i, r) xs

  abbrev listed : List (List ℕ × Row) → List (Address × Row)
  listed [] = []
  listed (e ∷ es) = with_row e.0 e.1 (listed es)

  in_order_with : (k : List ℕ) (r : Row) (xs : List (Address × Row))
      → IsInKeyOrder instance_cmp (λ (e : Address × Row). instance_of e.0) xs
      → IsInKeyOrder instance_cmp (λ (e : Address × Row). instance_of e.0) (with_row k r xs)
  in_order_with [] r xs order = order
  in_order_with (n ∷ i) r xs order = in_order-put instance_total (λ (e : Address × Row). instance_of e.0) (address n i, r) xs order

  listed_order : (es : List (List ℕ × Row)) → IsInKeyOrder instance_cmp (λ (e : Address × Row). instance_of e.0) (listed es)
  listed_order [] = tt
  listed_order (e ∷ es) = in_order_with e.0 e.1 (listed es) (listed_order es)

  abbrev rows_at : List (Address × Row) → Table Row
  rows_at = table_of (λ (e : Address × Row). instance_of e.0) (λ (e : Address × Row). e.1)

  table_with : (k : List ℕ) (r : Row) (xs : List (Address × Row)) (x : Address)
      → rows_at (with_row k r xs) x ≡ cond (eq_by_cmp (slice_cmp nat_cmp) (key x) k) (Some r) (rows_at xs x)
  table_with [] r xs x = refl
  table_with (n ∷ i) r xs x =
      ap (λ t. t x) (table_put (λ (e : Address × Row). instance_of e.0) (λ (e : Address × Row). e.1) (address n i, r) xs)
      ∙ go (is_own n i x) (eq_by_cmp (slice_cmp nat_cmp) (key x) (n ∷ i)) (own_place (record { action = n; at = i }) x)
    where
      go : (b a : Bool) → a ≡ b → or_else (only b (Some r)) (rows_at xs x) ≡ cond a (Some r) (rows_at xs x)
      go true true e = refl
      go false false e = refl
      go true false e = cc (e)
      go false true e = cc (e)

  listed_table : (es : List (List ℕ × Row)) (x : Address) → rows_at (listed es) x ≡ find (slice_cmp nat_cmp) (key x) es
  listed_table [] x = refl
  listed_table (e ∷ es) x =
      table_with e.0 e.1 (listed es) x
      ∙ ap (λ o. cond (eq_by_cmp (slice_cmp nat_cmp) (key x) e.0) (Some e.1) o) (listed_table es x)

  pub told_by : (f : Table Row) → HasRecord f
      → (rows : List (Address × Row)) × TellsRows (λ (e : Address × Row). e.0) (λ (e : Address × Row). e.1) f rows
  told_by f (rows, is) =
      let xs = listed (entries rows) in
      let order = listed_order (entries rows) in
      let own = lists_table (λ (e : Address × Row). instance_of e.0) (λ (e : Address × Row). e.1) xs order in
      let same : (x : Address) → rows_at xs x ≡ f x = λ x. listed_table (entries rows) x ∙ sym (get-entries rows (key x)) ∙ is.has x in (
        xs,
        record {
          all = record {
            each = λ e a. sym (same e.0) ∙ own.each e a;
            all = λ x y g. own.all x y (same x ∙ g);
          };
          ordered = by_keys (λ (e : Address × Row). instance_of e.0) xs order;
        },
      )
