-- What changes of a sum over a list in the order of instances, where its table changes at some instances alone.
use Rattle.std.proofs.Common.{◌≡◌, ◌≤◌, ℕ, ◌+◌, Bool, true, false, ◌&&◌, ◌||◌, cond, List, [], ◌∷◌, Some, None, option_map, is_eq, nat_eq, ⊎_elim, refl, sym, ap, ◌∙◌, arith}
use Rattle.std.proofs.lemmas.Cmp.{tied_itself}
use Rattle.std.proofs.lemmas.Option.{none-some}
use Rattle.wf_lists.specs.KeyOrder.{IsInKeyOrder, find_key, without_key}
use Rattle.wf_lists.proofs.KeyOrderLemmas.{in_order-without}
use Rattle.wf_layers.specs.Address.{Address, Table, address, is_own, same_at}
use Rattle.wf_layers.specs.Listed.{sum_of}
use Rattle.wf_layers.specs.Machine.{without}
use Rattle.wf_layers.proofs.Basics.{two, when, unless}
use Rattle.wf_tables.specs.Instances.{address_of, instance_cmp, instance_total, table_of}
use Rattle.wf_tables.specs.Known.{is_among}
use Rattle.wf_tables.specs.Instance.{Instance}
use Rattle.wf_tables.specs.Once.{AreDistinct}
use Rattle.wf_tables.proofs.OpenLemmas.{found_at}
use Rattle.wf_tables.proofs.TableLemmas.{table_take}
use Rattle.wf_meter.specs.Parts.{block_worth, worth}

module _ {X Y : Type 0} (at : X → Instance) (see : X → Y) (w : Address → Y → ℕ) where
  abbrev part : X → ℕ
  part x = w (address_of (at x)) (see x)

  abbrev table : List X → Table Y
  table = table_of at see

  abbrev rest : Instance → List X → List X
  rest = without_key instance_cmp at

  -- one that is taken out
  less_one : (k : Instance) (xs : List X)
      → sum_of part xs ≡ sum_of part (rest k xs) + worth w (address_of k) (table xs (address_of k))
  less_one k [] = refl
  less_one k (x ∷ xs) = go (is_eq (instance_cmp k (at x))) refl (less_one k xs)
    where
      go : (b : Bool) → is_eq (instance_cmp k (at x)) ≡ b
          → sum_of part xs ≡ sum_of part (rest k xs) + worth w (address_of k) (table xs (address_of k))
          → part x + sum_of part xs
          ≡ sum_of part (cond b xs (x ∷ rest k xs))
          + worth w (address_of k) (option_map see (cond b (Some x) (find_key instance_cmp at k xs)))
      go true e later =
          let it : at x ≡ k = found_at at k (x ∷ []) x (ap (λ b. cond b (Some x) None) e) in
          let same : part x ≡ w (address_of k) (see x) = ap (λ z. w (address_of z) (see x)) it in
          omega (arith, same)
      go false e later = omega (arith, later)

  -- lists with one table have one sum
  same_sum : (xs ys : List X) → IsInKeyOrder instance_cmp at xs → IsInKeyOrder instance_cmp at ys
      → ((x : Address) → table xs x ≡ table ys x) → sum_of part xs ≡ sum_of part ys
  same_sum [] [] ox oy same = refl
  same_sum [] (y ∷ ys) ox oy same =
      absurd (none-some (see y) (same (address_of (at y))
      ∙ ap (λ o. option_map see (cond (is_eq o) (Some y) (find_key instance_cmp at (at y) ys))) (tied_itself instance_total (at y))))
  same_sum (x ∷ xs) ys ox oy same =
      let k = at x in
      let all = less_one k ys in
      let own : table ys (address_of k) ≡ Some (see x) =
      sym (same (address_of k))
      ∙ ap (λ o. option_map see (cond (is_eq o) (Some x) (find_key instance_cmp at k xs))) (tied_itself instance_total k) in
      let gone : rest k (x ∷ xs) ≡ xs = ap (λ o. cond (is_eq o) xs (x ∷ rest k xs)) (tied_itself instance_total k) in
      let others = same_sum xs (rest k ys) ox.1 (in_order-without instance_total at k ys oy)
      (λ a. ap (λ zs. table zs a) (sym gone)
      ∙ ap (λ t. t a) (table_take at see k (x ∷ xs) ox)
      ∙ ap (λ o. cond (is_own k.action k.at a) None o) (same a)
      ∙ sym (ap (λ t. t a) (table_take at see k ys oy))) in
      let at_own : worth w (address_of k) (table ys (address_of k)) ≡ part x = ap (worth w (address_of k)) own in
      omega (arith, all, others, at_own)

  -- what stands at other actions isn't touched
  block_same : (n : ℕ) (i ns : List ℕ) (t : Table Y) → is_among n ns ≡ false
      → block_worth w (without n i t) i ns ≡ block_worth w t i ns
  block_same n i [] t e = refl
  block_same n i (q ∷ ns) t e = go (nat_eq q n) (is_among n ns) e (flip n q) (block_same n i ns t)
    where
      flip : (a b : ℕ) → nat_eq a b ≡ nat_eq b a
      flip a b = grind (arith)

      go : (a b : Bool) → (a || b) ≡ false → nat_eq n q ≡ a
          → (b ≡ false → block_worth w (without n i t) i ns ≡ block_worth w t i ns)
          → block_worth w (without n i t) i (q ∷ ns) ≡ block_worth w t i (q ∷ ns)
      go true b e f on = cc (e)
      go false true e f on = cc (e)
      go false false e f on =
          let here : worth w (address q i) (without n i t (address q i)) ≡ worth w (address q i) (t (address q i)) =
          ap (λ z. worth w (address q i) (cond (z && same_at i i) None (t (address q i)))) f in
          let those = on refl in
          omega (arith, here, those)

  -- what stands at some actions is part of the sum
  pub block_below : (i ns : List ℕ) → AreDistinct ns → (xs : List X) → IsInKeyOrder instance_cmp at xs
      → block_worth w (table xs) i ns ≤ sum_of part xs
  block_below i [] once xs ox = omega arith
  block_below i (n ∷ ns) once xs ox =
      let k : Instance = record { action = n; at = i } in
      let whole = less_one k xs in
      let those = block_below i ns once.1 (rest k xs) (in_order-without instance_total at k xs ox) in
      let same : block_worth w (table (rest k xs)) i ns ≡ block_worth w (table xs) i ns =
      ap (λ t. block_worth w t i ns) (table_take at see k xs ox) ∙ block_same n i ns (table xs) once.0 in
      omega (arith, whole, those, same)

  -- WHERE TWO TABLES agree but at these actions, the sums differ by what stands there.
  pub sums_differ : (i ns : List ℕ) → AreDistinct ns → (xs ys : List X) → IsInKeyOrder instance_cmp at xs → IsInKeyOrder instance_cmp at ys
      → ((x : Address) → (is_among x.name ns && same_at i x.at) ≡ false → table ys x ≡ table xs x)
      → sum_of part ys + block_worth w (table xs) i ns ≡ sum_of part xs + block_worth w (table ys) i ns
  sums_differ i [] once xs ys ox oy same =
      let all = same_sum xs ys ox oy (λ x. sym (same x refl)) in omega (arith, all)
  sums_differ i (n ∷ ns) once xs ys ox oy same =
      let k : Instance = record { action = n; at = i } in
      let in_xs = less_one k xs in
      let in_ys = less_one k ys in
      let tx : table (rest k xs) ≡ without n i (table xs) = table_take at see k xs ox in
      let ty : table (rest k ys) ≡ without n i (table ys) = table_take at see k ys oy in
      let those = sums_differ i ns once.1 (rest k xs) (rest k ys) (in_order-without instance_total at k xs ox)
      (in_order-without instance_total at k ys oy)
      (λ x u. ap (λ t. t x) ty ∙ ⊎_elim
      (λ t. when (is_own n i x) None (table ys x) t ∙ sym (when (is_own n i x) None (table xs x) t))
      (λ v. unless (is_own n i x) None (table ys x) v
      ∙ same x (neither (nat_eq n x.name) (is_among x.name ns) (same_at i x.at) v u)
      ∙ sym (unless (is_own n i x) None (table xs x) v))
      (two (is_own n i x)) ∙ sym (ap (λ t. t x) tx)) in
      let old : block_worth w (table (rest k xs)) i ns ≡ block_worth w (table xs) i ns =
      ap (λ t. block_worth w t i ns) tx ∙ block_same n i ns (table xs) once.0 in
      let new : block_worth w (table (rest k ys)) i ns ≡ block_worth w (table ys) i ns =
      ap (λ t. block_worth w t i ns) ty ∙ block_same n i ns (table ys) once.0 in
      omega (arith, in_xs, in_ys, those, old, new)
    where
      neither : (a b c : Bool) → (a && c) ≡ false → (b && c) ≡ false → ((a || b) && c) ≡ false
      neither true b c e f = e
      neither false b c e f = f
