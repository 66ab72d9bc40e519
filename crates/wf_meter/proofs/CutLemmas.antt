-- Sums of parts that are cut.
use Rattle.std.proofs.Common.{◌≡◌, ◌≤◌, ℕ, ◌*◌, ◌-◌, ◌^◌, List, [], ◌∷◌, length, refl, arith}
use Rattle.wf_val.specs.Cut.{cut_u64}
use Rattle.wf_layers.specs.Listed.{sum_of}

module _ {Entry : Type 0} (h : Entry → ℕ) where
  pub cut_whole : (xs : List Entry) → cut_u64 (sum_of (λ x. cut_u64 (h x)) xs) ≡ cut_u64 (sum_of h xs)
  cut_whole [] = refl
  cut_whole (x ∷ xs) = let rest = cut_whole xs in omega (arith, rest)

  pub cut_bound : (xs : List Entry) → sum_of (λ x. cut_u64 (h x)) xs ≤ (2 ^ 64 - 1) * length xs
  cut_bound [] = omega arith
  cut_bound (x ∷ xs) = let rest = cut_bound xs in omega (arith, rest)
