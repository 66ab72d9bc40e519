-- Bytes that stand for themselves in a JSON text.
use Rattle.std.proofs.Common.{◌≡◌, ℕ, zero, suc, ◌/◌, ◌%◌, ◌<◌, ◌==◌, Bool, true, false, ◌&&◌, inl, inr, List, [], ◌∷◌, ◌++◌}
use Rattle.std.proofs.Common.{length, slice_index, flat_map, refl, ap₂, arith}
use Rattle.std.proofs.Common.{ne_eqb}
use Rattle.std.proofs.lemmas.Bool.{or_parts, and_parts, not-true, ltb-false, cases_lt}
use Rattle.std.specs.Bool.{OnTrue}
use Rattle.hex.specs.Hex.{IsBytes, encode_lower, encode_with, lower_digits}
use Rattle.json.specs.Run.{is_stop, is_plain}
use Rattle.json.specs.Written.{PlainBetween}
use Rattle.wf_json.specs.Json.{escaped}

plain_byte : (x : ℕ) → is_plain x ≡ true → escaped x ≡ x ∷ []
plain_byte x plain =
    let none = or_parts _ _ (not-true (is_stop x) plain) in
    let tests = or_parts (x == 34) _ none.0 in
    let above = ltb-false x 32 none.1 in
    rw (
      tests.0,
      tests.1,
      ne_eqb x 8 (λ e. absurd (omega (arith, e, above))),
      ne_eqb x 12 (λ e. absurd (omega (arith, e, above))),
      ne_eqb x 10 (λ e. absurd (omega (arith, e, above))),
      ne_eqb x 13 (λ e. absurd (omega (arith, e, above))),
      ne_eqb x 9 (λ e. absurd (omega (arith, e, above))),
      none.1,
    ) refl

plain_bytes : (d : List ℕ) → PlainBetween d 0 (length d) → flat_map escaped d ≡ d
plain_bytes [] h = refl
plain_bytes (x ∷ xs) h =
    ap₂ (λ (a b : List ℕ). a ++ b) (plain_byte x (h 0 (omega arith) (omega arith)))
    (plain_bytes xs (λ k p q. h (suc k) (omega arith) (omega arith)))

pub plain_stands : (d : List ℕ) (b : Bool) → OnTrue b (PlainBetween d 0 (length d)) → b ≡ true → flat_map escaped d ≡ d
plain_stands d true h e = plain_bytes d h
plain_stands d false h e = cc e

-- ---- the digits of a digest

abbrev digits_plain : ℕ → Bool
digits_plain zero = true
digits_plain (suc n) = is_plain (slice_index lower_digits n) && digits_plain n

digit_plain : (n k : ℕ) → digits_plain n ≡ true → k < n → is_plain (slice_index lower_digits k) ≡ true
digit_plain zero k all lt = absurd (omega arith)
digit_plain (suc n) k all lt =
    let parts = and_parts (is_plain (slice_index lower_digits n)) (digits_plain n) all in
    elim (cases_lt k n) [
      | inl below ↦ digit_plain n k parts.1 below
      | inr top ↦
          let e : k ≡ n = omega arith in
          rw e parts.0
    ]

pub digits_are_plain : (bytes : List ℕ) → IsBytes bytes → flat_map escaped (encode_lower bytes) ≡ encode_lower bytes
unfolding encode_with
digits_are_plain [] all = refl
digits_are_plain (b ∷ bytes) all =
    let first : b < 256 = all 0 in
    let high = plain_byte (slice_index lower_digits (b / 16)) (digit_plain 16 (b / 16) refl (omega (arith, first))) in
    let low = plain_byte (slice_index lower_digits (b % 16)) (digit_plain 16 (b % 16) refl (omega arith)) in
    ap₂ (λ (x y : List ℕ). x ++ y) high (ap₂ (λ (x y : List ℕ). x ++ y) low (digits_are_plain bytes (λ i. all (suc i))))
