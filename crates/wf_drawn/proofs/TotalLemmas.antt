-- Sums over levels.
use Rattle.std.proofs.Common.{◌≡◌, ◌≢◌, ℕ, zero, suc, ◌+◌, ◌<◌, ◌≤◌, Bool, true, false, nat_eq, cond, refl, ap, arith}
use Rattle.std.proofs.lemmas.Bool.{eqb-false, eqb-true, ne_eqb}

-- the sum of what the first levels have
abbrev pub total : ℕ → (ℕ → ℕ) → ℕ
total zero f = 0
total (suc k) f = total k f + f k

pub total_sum : (k : ℕ) (f g : ℕ → ℕ) → total k (λ i. f i + g i) ≡ total k f + total k g
total_sum zero f g = refl
total_sum (suc k) f g = let so_far = total_sum k f g in omega (arith, so_far)

pub total_none : (k : ℕ) → total k (λ i. 0) ≡ 0
total_none zero = refl
total_none (suc k) = let so_far = total_none k in omega (arith, so_far)

-- what stands on one level that isn't among these
total_past : (k l n : ℕ) → k ≤ l → total k (λ i. cond (nat_eq l i) n 0) ≡ 0
total_past zero l n past = refl
total_past (suc k) l n past =
    let so_far = total_past k l n (omega (arith, past)) in
    let here = ap (λ b. cond b n 0) (ne_eqb l k (λ same. absurd (omega (arith, past, same)))) in
    omega (arith, so_far, here)

-- and on one that is
pub total_one : (k l n : ℕ) → l < k → total k (λ i. cond (nat_eq l i) n 0) ≡ n
total_one zero l n below = absurd (omega (arith, below))
total_one (suc k) l n below = last (λ lt. total_one k l n lt) (nat_eq l k) refl
  where
    last : (l < k → total k (λ i. cond (nat_eq l i) n 0) ≡ n) → (b : Bool) → nat_eq l k ≡ b
        → total k (λ i. cond (nat_eq l i) n 0) + cond b n 0 ≡ n
    last above true is = let so_far = total_past k l n (omega (arith, eqb-true l k is)) in omega (arith, so_far)
    last above false is =
        let other : l ≢ k = eqb-false l k is in
        let so_far = above (omega (arith, below, other)) in
        omega (arith, so_far)
