-- Sums, and the iterations of an Until so far.
use Rattle.std.proofs.Common.{◌≡◌, ℕ, zero, suc, ◌+◌, ◌<◌, ◌≤◌, Bool, false, ⊎_elim, refl, subst, arith, nat_eq, eqb-true}
use Rattle.std.proofs.lemmas.Bool.{eqb-false}
use Rattle.wf_layers.specs.Meaning.{rounds}
use Rattle.wf_layers.specs.Bound.{sum}
use Rattle.wf_layers.proofs.Basics.{two, when, unless}

-- SUMS

pub sum_more : (c e : ℕ) (h k : ℕ → ℕ) → c ≤ e → ((j : ℕ) → j < c → h j ≤ k j) → sum c h ≤ sum e k
sum_more zero e h k le more = omega arith
sum_more (suc c) zero h k le more = absurd (omega arith)
sum_more (suc c) (suc e) h k le more =
    ⊎_elim
    (λ t. let s = eqb-true c e t in let x = sum_more c e h k (omega (arith, s)) (λ j lt. more j (omega arith)) in
    let y = subst (λ z. h c ≤ k z) s (more c (omega arith)) in omega (arith, x, y))
    (λ u. let ne = eqb-false c e u in let x = sum_more (suc c) e h k (omega (arith, ne)) more in omega (arith, x))
    (two (nat_eq c e))

pub sum_same : (c : ℕ) (h k : ℕ → ℕ) → ((j : ℕ) → j < c → h j ≡ k j) → sum c h ≡ sum c k
sum_same zero h k same = refl
sum_same (suc c) h k same =
    let x = sum_same c h k (λ j lt. same j (omega (arith, lt))) in let y = same c (omega arith) in omega (arith, x, y)

pub sum_zero : (c : ℕ) (h : ℕ → ℕ) → ((j : ℕ) → j < c → h j ≡ 0) → sum c h ≡ 0
sum_zero zero h same = refl
sum_zero (suc c) h same = let x = sum_zero c h (λ j lt. same j (omega (arith, lt))) in let y = same c (omega arith) in omega (arith, x, y)

-- one of the terms falls
pub sum_falls : (c b gain : ℕ) (h k : ℕ → ℕ) → b < c → ((j : ℕ) → j < c → (j ≡ b → ⊥) → h j ≡ k j) → h b ≡ k b + gain
    → sum c h ≡ sum c k + gain
sum_falls zero b gain h k lt same at = absurd (omega arith)
sum_falls (suc c) b gain h k lt same at =
    ⊎_elim
    (λ t. let s = eqb-true b c t in
    let x = sum_same c h k (λ j l. same j (omega (arith, l)) (λ e. omega (arith, l, e, s))) in
    let y = subst (λ z. h z ≡ k z + gain) s at in omega (arith, x, y))
    (λ u. let ne = eqb-false b c u in
    let x = sum_falls c b gain h k (omega (arith, ne, lt)) (λ j l. same j (omega (arith, l))) at in
    let y = same c (omega arith) (λ e. omega (arith, e, ne)) in omega (arith, x, y))
    (two (nat_eq b c))

-- an Until that was to go on after all but the last of its iterations has begun no more than it has
pub begun_most : (most next : ℕ) (p : ℕ → Bool) → next ≤ most → ((j : ℕ) → suc j < next → p j ≡ false) → next ≤ rounds most 0 p
begun_most most zero p le h = omega arith
begun_most most (suc j) p le h = reach most 0 j p (λ q l. h q (omega arith)) (omega arith) (omega arith)
  where
    above : (a k : ℕ) (p : ℕ → Bool) → k ≤ rounds a k p
    above zero k p = omega arith
    above (suc a) k p =
        ⊎_elim
        (λ t. let e = when (p k) (suc k) (rounds a (suc k) p) t in omega (arith, e))
        (λ u. let e = unless (p k) (suc k) (rounds a (suc k) p) u in let r = above a (suc k) p in omega (arith, e, r))
        (two (p k))

    reach : (a k j : ℕ) (p : ℕ → Bool) → ((q : ℕ) → q < j → p q ≡ false) → k ≤ j → j < k + a → suc j ≤ rounds a k p
    reach zero k j p h le lt = absurd (omega arith)
    reach (suc a) k j p h le lt =
        ⊎_elim
        (λ same. let s = eqb-true k j same in
        ⊎_elim
        (λ t. let e = when (p k) (suc k) (rounds a (suc k) p) t in omega (arith, e, s))
        (λ u. let e = unless (p k) (suc k) (rounds a (suc k) p) u in let r = above a (suc k) p in omega (arith, e, s, r))
        (two (p k)))
        (λ ne. let x : k < j = omega (arith, eqb-false k j ne) in
        let e = unless (p k) (suc k) (rounds a (suc k) p) (h k x) in let r = reach a (suc k) j p h x (omega arith) in omega (arith, e, r))
        (two (nat_eq k j))
