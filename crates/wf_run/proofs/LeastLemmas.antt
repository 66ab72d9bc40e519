-- What runs cost at least, counted in pieces of 64.
use Rattle.std.proofs.Common.{◌≡◌, ℕ, ◌*◌, ◌^◌, ◌-◌, ◌<◌, ◌≤◌, min, Bool, true, false, nat_lt, refl, sym, arith}
use native.Mathlib.Nat.{mul_assoc}
use Rattle.std.proofs.lemmas.Bool.{le-ltb, lt-ltb, ltb-false, ltb-true}

same_test : (a b : Bool) → (a ≡ true → b ≡ true) → (a ≡ false → b ≡ false) → a ≡ b
same_test true b whole none = sym (whole refl)
same_test false b whole none = sym (none refl)

one_test : (a b c d : ℕ) → (a < b → c < d) → (b ≤ a → d ≤ c) → nat_lt a b ≡ nat_lt c d
one_test a b c d more less =
    same_test (nat_lt a b) (nat_lt c d) (λ is. lt-ltb c d (more (ltb-true a b is))) (λ is. le-ltb c d (less (ltb-false a b is)))

-- a product that is cut at the greatest number of 64 bits is over 2^20 where 64 times the product is over 2^26
pub in_pieces : (pieces count product : ℕ) → product ≡ min (pieces * count) (2 ^ 64 - 1)
    → nat_lt 1048576 product ≡ nat_lt 67108864 (64 * pieces * count)
in_pieces pieces count product is =
    one_test 1048576 product 67108864 (64 * pieces * count) (λ more. omega (arith, is, more, mul_assoc 64 pieces count))
    (λ less. omega (arith, is, less, mul_assoc 64 pieces count))
