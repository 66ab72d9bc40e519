-- The whole numbers among the numbers that JSON writes.
use Rattle.std.proofs.Common.{◌≡◌, ℕ, ◌^◌, ◌<◌, ◌==◌, ℤ, List, drop, get_or, true, false, Option, Some, None, IfSome}
use Rattle.std.proofs.Common.{refl, sym, ap, ◌∙◌, arith, lt-ltb}
use Rattle.std.specs.Prelude.{FitsSigned, SomeIff}
use Rattle.std.specs.Int.{w64}
use Rattle.fast_float.specs.Text.{Parts, IsInteger, digits_of, with_sign, scan}
use Rattle.serde_json.specs.Data.{unsigned}
use Rattle.serde_json.specs.Find.{of_integer}
use Rattle.serde_json.specs.Read.{number_of, number_from, is_integer}

pub signed_text : (s : List ℕ) → (get_or s 0 0 == 45) ≡ true → number_of s ≡ number_from true (scan (drop 1 s))
unfolding number_of
signed_text s e = rw e refl

pub unsigned_text : (s : List ℕ) → (get_or s 0 0 == 45) ≡ false → number_of s ≡ number_from false (scan s)
unfolding number_of
unsigned_text s e = rw e refl

is_integer-true : (p : Parts) → IsInteger p → is_integer p ≡ true
is_integer-true p h = rw (lt-ltb _ _ h.0, h.1, h.2) refl

unsigned_number : (p : Parts) → IsInteger p → digits_of p < 2 ^ 63 → number_from false p ≡ Some (unsigned (digits_of p))
unsigned_number p whole fits =
    let wider : digits_of p < 2 ^ 64 = omega arith in
    rw (is_integer-true p whole, lt-ltb _ _ wider) refl

pub whole-unsigned : (p : Parts) (o : Option ℤ)
    → SomeIff o (IsInteger p × FitsSigned w64 (with_sign false (digits_of p))) (with_sign false (digits_of p))
    → IfSome o (λ z. number_from false p ≡ Some (of_integer z))
whole-unsigned p None h = tt
whole-unsigned p (Some z) h = unsigned_number p h.0.0 (omega (arith, h.0.1)) ∙ ap (λ x. Some (of_integer x)) (sym h.1)
