-- The next multiple of a step behind a start.
use Rattle.std.proofs.Common.{◌≡◌, ℕ, suc, ◌+◌, ◌-◌, ◌*◌, ◌/◌, ◌%◌, ◌<◌, ◌≤◌, ◌^◌, ◌⊎◌, inl, inr, sym, ap, subst, ◌∙◌, arith, min, Option}
use Rattle.std.proofs.Common.{Some, None}
use Rattle.std.proofs.Math.Nat.{mod-eq_of_lt, mod-lt}
use Rattle.std.proofs.lemmas.Bool.{cases_lt, cond-true, cond-false, le-leb, lt-leb}
use Rattle.std.proofs.lemmas.Nat.{div-add-mod', mul-le, mod-mul-add}
use Rattle.wf_fn_time.specs.Moments.{last_tick, moment}
use Rattle.wf_recur.specs.Next.{IsLeastFrom, IsMultipleFrom}

-- between q * s + r and the multiple behind it there is none
none_by : (s x y q p r : ℕ) → q * s + r ≡ x → p * s ≡ y → x ≤ y → y < x + (s - r) → 0 < r → r < s → (q < p) ⊎ (p ≤ q) → ⊥
none_by s x y q p r ex ey le lt over small (inl more) =
    let rows : suc q * s ≤ p * s = mul-le (suc q) s p s (omega (arith, more)) (omega arith) in
    omega (arith, rows, ex, ey, le, lt, small)
none_by s x y q p r ex ey le lt over small (inr less) =
    let rows : p * s ≤ q * s = mul-le p s q s less (omega arith) in
    omega (arith, rows, ex, ey, le, over)

none_between : (s x y : ℕ) → 1 ≤ s → x ≤ y → y < x + (s - x % s) → 0 < x % s → y % s ≡ 0 → ⊥
none_between s x y positive le lt over multiple =
    none_by s x y (x / s) (y / s) (x % s) (div-add-mod' x s) (omega (arith, div-add-mod' y s, multiple)) le lt over
    (mod-lt x (omega (arith, positive))) (cases_lt (x / s) (y / s))

-- a number that is a multiple is the least from itself on
pub itself : (start step at : ℕ) → (at - start) % step ≡ 0 → IsLeastFrom (IsMultipleFrom start step) at (Some at)
itself start step at multiple = (multiple, omega arith, λ k is le. le)

-- else it is the one that ends the step
further : (start step at : ℕ) → 1 ≤ step → start ≤ at → IsMultipleFrom start step (at + (step - (at - start) % step))
further start step at positive from =
    let whole = div-add-mod' (at - start) step in
    let small : (at - start) % step < step = mod-lt (at - start) (omega (arith, positive)) in
    let ended : at + (step - (at - start) % step) - start ≡ suc ((at - start) / step) * step + 0 = omega (arith, whole, small, from) in
    ap (λ n. n % step) ended ∙ mod-mul-add (suc ((at - start) / step)) step 0 (omega (arith, positive))

least_by : (start step at k : ℕ) → 1 ≤ step → start ≤ at → 0 < (at - start) % step → IsMultipleFrom start step k → at ≤ k
    → (k < at + (step - (at - start) % step)) ⊎ (at + (step - (at - start) % step) ≤ k) → at + (step - (at - start) % step) ≤ k
least_by start step at k positive from over is le (inl lt) =
    absurd (none_between step (at - start) (k - start) positive (omega (arith, le)) (omega (arith, lt, from, le)) over is)
least_by start step at k positive from over is le (inr more) = more

pub ended : (start step at : ℕ) → 1 ≤ step → start ≤ at → 0 < (at - start) % step
    → IsLeastFrom (IsMultipleFrom start step) at (Some (at + (step - (at - start) % step)))
ended start step at positive from over = (
  further start step at positive from,
  omega arith,
  λ k is le. least_by start step at k positive from over is le (cases_lt k (at + (step - (at - start) % step))),
)

-- beyond all moments a step may be cut
capped_by : (p s x : ℕ) → s ≡ min p (2 ^ 62) → x < 2 ^ 62 → (p < 2 ^ 62) ⊎ (2 ^ 62 ≤ p) → x % s ≡ x % p
capped_by p s x is lt (inl small) = ap (λ n. x % n) (omega (arith, is, small))
capped_by p s x is lt (inr great) = mod-eq_of_lt (omega (arith, is, great, lt)) ∙ sym (mod-eq_of_lt (omega (arith, great, lt)))

pub capped : (p s x : ℕ) → s ≡ min p (2 ^ 62) → x < 2 ^ 62 → x % s ≡ x % p
capped p s x is lt = capped_by p s x is lt (cases_lt p (2 ^ 62))

-- the least by one property is the least by another that says the same
pub least-same : (P Q : ℕ → Type 0) (at : ℕ) (o : Option ℕ) → ((k : ℕ) → P k → Q k) → ((k : ℕ) → Q k → P k) → IsLeastFrom P at o
    → IsLeastFrom Q at o
least-same P Q at (Some m) to from least = (to m least.0, least.1, λ k is le. least.2 k (from k is) le)
least-same P Q at None to from none = λ k is le. none k (from k is) le

-- the least of the numbers that are moments
within_by : (P : ℕ → Type 0) (at n : ℕ) → IsLeastFrom P at (Some n) → (last_tick < n) ⊎ (n ≤ last_tick)
    → IsLeastFrom (λ m. (m ≤ last_tick) × P m) at (moment n)
within_by P at n least (inl behind) =
    let Q : Option ℕ → Type 0 = λ m. IsLeastFrom (λ m. (m ≤ last_tick) × P m) at m in
    subst Q (sym (cond-false _ _ _ (lt-leb n last_tick behind))) (λ k is le. omega (arith, is.0, behind, least.2 k is.1 le))
within_by P at n least (inr within) =
    let Q : Option ℕ → Type 0 = λ m. IsLeastFrom (λ m. (m ≤ last_tick) × P m) at m in
    subst Q (sym (cond-true _ _ _ (le-leb n last_tick within))) ((within, least.0), least.1, λ k is le. least.2 k is.1 le)

pub within : (P : ℕ → Type 0) (at n : ℕ) → IsLeastFrom P at (Some n) → IsLeastFrom (λ m. (m ≤ last_tick) × P m) at (moment n)
within P at n least = within_by P at n least (cases_lt last_tick n)

-- the same of a step that may be cut
pub capped-least : (start p s at n : ℕ) → s ≡ min p (2 ^ 62) → IsLeastFrom (IsMultipleFrom start s) at (Some n)
    → IsLeastFrom (λ m. (m ≤ last_tick) × ((m - start) % p ≡ 0)) at (moment n)
capped-least start p s at n is least =
    least-same (λ m. (m ≤ last_tick) × IsMultipleFrom start s m) (λ m. (m ≤ last_tick) × ((m - start) % p ≡ 0)) at (moment n)
    (λ k on. (on.0, sym (capped p s (k - start) is (omega (arith, on.0))) ∙ on.1))
    (λ k on. (on.0, capped p s (k - start) is (omega (arith, on.0)) ∙ on.1))
    (within (IsMultipleFrom start s) at n least)
