-- What a state has cost, told by its tables: the lists by which it is kept tell these, each entry once.
use Rattle.std.proofs.Common.{◌≡◌, ℕ, ◌+◌, List, [], ◌∷◌, map, Some, inl, inr, refl, ap, subst}
use Rattle.std.specs.Cmp.Lexicographic.{slice_cmp}
use Rattle.std.specs.Ordering.{nat_cmp}
use Rattle.wf_lists.specs.KeyOrder.{IsInKeyOrder}
use Rattle.wf_lists.proofs.KeyOrderLemmas.{in_order-map, in_order-on}
use Rattle.wf_layers.specs.Address.{Address}
use Rattle.wf_layers.specs.Listed.{Among, sum_of}
use Rattle.wf_layers.specs.Record.{key}
use Rattle.wf_asks.specs.Instances.{address_of, instance_cmp, instance_key, table_of}
use Rattle.wf_asks.specs.declared.instance.Instance.{Instance}
use Rattle.wf_meter.proofs.PriceLemmas.{lists_table}
use Rattle.wf_priced.specs.Priced.{TellsRows}

module _ {E Y : Type 0} (at : E → Instance) (see : E → Y) where
  -- an entry by its address
  abbrev pub pair : E → Address × Y
  pair e = (address_of (at e), see e)

  paired : (e : E) (xs : List E) → Among xs e → Among (map pair xs) (pair e)
  paired e [] a = absurd a
  paired e (x ∷ xs) (inl is) = inl (ap pair is)
  paired e (x ∷ xs) (inr a) = inr (paired e xs a)

  unpaired : (p : Address × Y) (xs : List E) → Among (map pair xs) p → (e : E) × Among xs e × (pair e ≡ p)
  unpaired p [] a = absurd a
  unpaired p (x ∷ xs) (inl is) = (x, inl refl, is)
  unpaired p (x ∷ xs) (inr a) = let rest = unpaired p xs a in (rest.0, inr rest.1, rest.2)

  pub tells : (xs : List E) → IsInKeyOrder instance_cmp at xs
      → TellsRows (λ (p : Address × Y). p.0) (λ (p : Address × Y). p.1) (table_of at see xs) (map pair xs)
  tells xs order =
      let lists = lists_table at see xs order in
      record {
        all = record {
          each = λ p a.
              let found = unpaired p xs a in
              subst (λ (q : Address × Y). table_of at see xs q.0 ≡ Some q.1) found.2 (lists.each found.0 found.1);
          all = λ x y is. let found = lists.all x y is in (pair found.0, paired found.0 xs found.1, found.2);
        };
        ordered =
            in_order-map (slice_cmp nat_cmp) (λ (p : Address × Y). key p.0) pair xs
            (in_order-on (slice_cmp nat_cmp) instance_key at xs order);
      }

  pub sum_paired : (h : Address × Y → ℕ) (xs : List E) → sum_of h (map pair xs) ≡ sum_of (λ e. h (pair e)) xs
  sum_paired h [] = refl
  sum_paired h (x ∷ xs) = ap (λ n. h (pair x) + n) (sum_paired h xs)
