-- Sums over what is left of a list.
use Rattle.std.proofs.Common.{◌≡◌, ℕ, zero, suc, ◌+◌, List, [], ◌∷◌, Some, drop, slice_get, ap, arith}
use Rattle.std.proofs.lemmas.Option.{none-some}
use Rattle.wf_val.specs.Cut.{cut_u64}
use Rattle.wf_layers.specs.Listed.{sum_of}
use Rattle.wf_tables.specs.Instances.{address_of}
use Rattle.wf_tables.specs.Known.{open_tree}
use Rattle.wf_tables.specs.OpenAt.{OpenAt}
use Rattle.wf_tables.specs.RowAt.{RowAt}
use Rattle.wf_tables.specs.Plan.{PlanTree}
use Rattle.wf_meter.specs.Parts.{decision_part, decisions_sum, row_part, rows_sum, turns_part, turns_sum}

module _ {E : Type 0} (h : E → ℕ) where
  -- the next of them
  next_one : (xs : List E) (k : ℕ) (x : E) → slice_get xs k ≡ Some x → sum_of h (drop k xs) ≡ h x + sum_of h (drop (suc k) xs)
  next_one [] k x e = absurd (none-some x e)
  next_one (y ∷ ys) zero x e = let same : y ≡ x = cc (e) in ap (λ z. h z + sum_of h ys) same
  next_one (y ∷ ys) (suc k) x e = next_one ys k x e

  -- it goes to those so far
  goes_on : (total : ℕ) (xs : List E) (k j : ℕ) (x : E) → slice_get xs k ≡ Some x → j ≡ suc k → (n : ℕ) → n ≡ h x
      → total + sum_of h (drop k xs) ≡ sum_of h xs → total + n + sum_of h (drop j xs) ≡ sum_of h xs
  goes_on total xs k j x e next n is so_far =
      let one = next_one xs k x e in
      let rest : sum_of h (drop j xs) ≡ sum_of h (drop (suc k) xs) = ap (λ i. sum_of h (drop i xs)) next in
      omega (arith, one, rest, is, so_far)

pub rows_on : {Row Kept : Type 0} (see : Row → Kept) (cost : Kept → ℕ) (total : ℕ) (rows : List (RowAt Row)) (k j : ℕ) (r : RowAt Row)
    → slice_get rows k ≡ Some r → j ≡ suc k → (n : ℕ) → n ≡ cut_u64 (cost (see r.row))
    → total + rows_sum see cost (drop k rows) ≡ rows_sum see cost rows → total + n + rows_sum see cost (drop j rows) ≡ rows_sum see cost rows
rows_on {Row} see cost total rows k j r = goes_on (λ (r : RowAt Row). row_part cost (address_of r.instance) (see r.row)) total rows k j r

module _ {Decision Verdict Decided Told : Type 0} (decided : Decision → Decided) (told : Verdict → Told) where
  pub turns_on : (p : PlanTree) (items : Decided → ℕ) (total : ℕ) (opens : List (OpenAt Decision Verdict)) (k j : ℕ)
      (o : OpenAt Decision Verdict) → slice_get opens k ≡ Some o → j ≡ suc k → (n : ℕ)
      → n ≡ turns_part p items (address_of o.instance) (open_tree decided told o)
      → total + turns_sum decided told p items (drop k opens) ≡ turns_sum decided told p items opens
      → total + n + turns_sum decided told p items (drop j opens) ≡ turns_sum decided told p items opens
  turns_on p items total opens k j o =
      goes_on (λ (o : OpenAt Decision Verdict). turns_part p items (address_of o.instance) (open_tree decided told o)) total opens k j o

  pub decisions_on : (weight : Decided → ℕ) (total : ℕ) (opens : List (OpenAt Decision Verdict)) (k j : ℕ)
      (o : OpenAt Decision Verdict) → slice_get opens k ≡ Some o → j ≡ suc k → (n : ℕ) → n ≡ cut_u64 (weight (decided o.decision))
      → total + decisions_sum decided told weight (drop k opens) ≡ decisions_sum decided told weight opens
      → total + n + decisions_sum decided told weight (drop j opens) ≡ decisions_sum decided told weight opens
  decisions_on weight total opens k j o =
      goes_on (λ (o : OpenAt Decision Verdict). decision_part weight (address_of o.instance) (open_tree decided told o)) total opens k j o
