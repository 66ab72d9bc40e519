-- `parse`, with a leading plus refused, against the text of a whole number.
use Rattle.std.proofs.Common.{◌≡◌, ℕ, List, Bool, true, false, length, refl, Some, None, Result, Ok, Err, arith, cond, drop, ap, subst}
use Rattle.std.proofs.lemmas.Bool.{and_parts, and_from, lt-ltb, ltb-true, false_from_ne_true}
use Rattle.std.proofs.lemmas.Int.{ints}
use Rattle.std.proofs.lemmas.Str.Parse.{IsNumeralModel, numerals_by_value, tells_all_ascii_digits}
use Rattle.std.specs.Int.{w64}
use Rattle.std.specs.Prelude.{ℤ, FitsSigned, ◌&&◌, ◌==◌, nat_lt, slice_index}
use Rattle.std.specs.Result.{OkIff, result_ok}
use Rattle.std.specs.Str.{all_ascii_digits}
use Rattle.std.specs.Str.Parse.{IsNumeral, ParsesSigned, digits_value, signed_digits_value, starts_with_minus, without_leading_sign}
use Rattle.wf_val.specs.Arguments.{fits_i64}
use Rattle.wf_fn_math.specs.Conversion.{whole_number, without_minus}

fits-true : (v : ℤ) → FitsSigned w64 v → fits_i64 v ≡ true
fits-true v h = grind (arith, ints)

fits-from : (v : ℤ) → fits_i64 v ≡ true → FitsSigned w64 v
fits-from v h = grind (arith, ints)

digits : IsNumeralModel (λ ds. all_ascii_digits ds ≡ true) (digits_value 10)
digits = numerals_by_value (λ ds. all_ascii_digits ds ≡ true) tells_all_ascii_digits

-- digits that write a number of 64 bits, as a test
abbrev is_fit : List ℕ → ℤ → Bool
is_fit ds v = (nat_lt 0 (length ds) && all_ascii_digits ds) && fits_i64 v

is_fit-true : (ds : List ℕ) (v : ℤ) → IsNumeral 10 ds × FitsSigned w64 v → is_fit ds v ≡ true
is_fit-true ds v h = and_from _ _ (and_from _ _ (lt-ltb 0 (length ds) h.0.0) (digits.from ds h.0.1)) (fits-true v h.1)

is_fit-from : (ds : List ℕ) (v : ℤ) → is_fit ds v ≡ true → IsNumeral 10 ds × FitsSigned w64 v
is_fit-from ds v h =
    let both = and_parts _ _ h in
    let numeral = and_parts _ _ both.0 in
    ((ltb-true 0 (length ds) numeral.0, digits.to ds numeral.1), fits-from v both.1)

parsed_as : {E : Type 0} (ds : List ℕ) (v : ℤ) (r : Result ℤ E) → OkIff r (IsNumeral 10 ds × FitsSigned w64 v) v
    → result_ok r ≡ cond (is_fit ds v) (Some v) None
parsed_as ds v (Ok z) h = rw (is_fit-true ds v h.0, h.1) refl
parsed_as ds v (Err e) h = rw (false_from_ne_true (is_fit ds v) (λ test. h (is_fit-from ds v test))) refl

-- with no plus in front, `parse` reads a whole number
pub whole_number-parsed : {E : Type 0} (s : List ℕ) (r : Result ℤ E) → (slice_index s 0 == 43) ≡ false → ParsesSigned w64 10 s r
    → result_ok r ≡ whole_number s
whole_number-parsed s r plus h =
    let unsigned : without_leading_sign s ≡ without_minus s = ap (λ b. cond (starts_with_minus s) (drop 1 s) (drop (cond b 1 0) s)) plus in
    parsed_as (without_minus s) (signed_digits_value 10 s) r
    (subst (λ ds. OkIff r (IsNumeral 10 ds × FitsSigned w64 (signed_digits_value 10 s)) (signed_digits_value 10 s)) unsigned h)
