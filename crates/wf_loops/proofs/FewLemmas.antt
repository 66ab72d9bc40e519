-- No more loops are round two actions than round one of them.
use Rattle.std.proofs.Common.{◌≡◌, ℕ, ◌≤◌, Bool, true, false, ◌&&◌, ◌||◌, [], length, inl, inr, refl, ap, ◌∙◌, arith, true≢false}
use Rattle.std.proofs.Common.{nat_eq}
use Rattle.wf_order.specs.Definition.{Kind, Leaf, Scope, Choice, Foreach, Until, Branches, no_branch, branch, Graph, done, add, holds, has}
use Rattle.wf_order.specs.Definition.{has_any}
use Rattle.wf_order.specs.Seen.{Once, OnceAny, OnceIn}
use Rattle.wf_order.proofs.Basics.{two, and_of, or_second, when, unless}
use Rattle.wf_loops.specs.Loops.{loops_any, loops_in, loops_of, paces_any, paces_in, paces_round}
use Rattle.wf_loops.proofs.HeldLemmas.{paces_none}

front_off : (b c : Bool) → (b || c) ≡ false → b ≡ false
front_off true c e = absurd (true≢false e)
front_off false c e = refl

back_off : (b c : Bool) → (b || c) ≡ false → c ≡ false
back_off true c e = absurd (true≢false e)
back_off false c e = e

no_both : (b c : Bool) → c ≡ false → (b && c) ≡ false
no_both true c f = f
no_both false c f = refl

any_none : (bs : Branches) (x y : ℕ) → has_any bs y ≡ false → paces_any bs x y ≡ []
any_none no_branch x y off = refl
any_none (branch b rest) x y off =
    unless (has b x && has b y) (paces_round b x y) (paces_any rest x y)
    (no_both (has b x) (has b y) (front_off (has b y) (has_any rest y) off))
    ∙ any_none rest x y (back_off (has b y) (has_any rest y) off)

mutual
  few_in : (m : ℕ) (kind : Kind) → OnceIn kind → (x y : ℕ) → length (paces_in kind x y) ≤ length (loops_in m kind y)
  few_in m Leaf once x y = omega arith
  few_in m (Scope g) once x y = few_of g once x y
  few_in m (Choice bs) once x y = few_any bs once x y
  few_in m (Foreach pace g) once x y = omega (arith, few_of g once x y)
  few_in m (Until most g) once x y = omega (arith, few_of g once x y)

  few_any : (bs : Branches) → OnceAny bs → (x y : ℕ) → length (paces_any bs x y) ≤ length (loops_any bs y)
  few_any no_branch once x y = omega arith
  few_any (branch b rest) once x y = elim (two (has b y)) [
    | inl hy ↦ elim (two (has b x)) [
      | inl hx ↦ omega (
        arith,
        ap length (when (has b x && has b y) (paces_round b x y) (paces_any rest x y) (and_of (has b x) (has b y) hx hy)),
        ap length (when (has b y) (loops_of b y) (loops_any rest y) hy),
        few_of b once.1 x y,
      )
      | inr off ↦ omega (
        arith,
        ap length (unless (has b x && has b y) (paces_round b x y) (paces_any rest x y) (ap (λ (c : Bool). c && has b y) off)
            ∙ any_none rest x y (once.0 y hy)),
      )
    ]
    | inr off ↦ omega (
      arith,
      ap length (unless (has b x && has b y) (paces_round b x y) (paces_any rest x y) (no_both (has b x) (has b y) off)),
      ap length (unless (has b y) (loops_of b y) (loops_any rest y) off),
      few_any rest once.2 x y,
    )
  ]

  pub few_of : (g : Graph) → Once g → (x y : ℕ) → length (paces_round g x y) ≤ length (loops_of g y)
  few_of done once x y = omega arith
  few_of (add m after kind rest) once x y = elim (two (holds kind y)) [
    | inl hy ↦ elim (two (holds kind x)) [
      | inl hx ↦ omega (
        arith,
        ap length (when (holds kind x && holds kind y) (paces_in kind x y) (paces_round rest x y)
            (and_of (holds kind x) (holds kind y) hx hy)),
        ap length (when (holds kind y) (loops_in m kind y) (loops_of rest y) hy),
        few_in m kind once.2 x y,
      )
      | inr off ↦ omega (
        arith,
        ap length (unless (holds kind x && holds kind y) (paces_in kind x y) (paces_round rest x y)
            (ap (λ (c : Bool). c && holds kind y) off)
            ∙ paces_none rest x y (once.1 y (or_second (nat_eq m y) (holds kind y) hy))),
      )
    ]
    | inr off ↦ omega (
      arith,
      ap length (unless (holds kind x && holds kind y) (paces_in kind x y) (paces_round rest x y)
          (no_both (holds kind x) (holds kind y) off)),
      ap length (unless (holds kind y) (loops_in m kind y) (loops_of rest y) off),
      few_of rest once.3 x y,
    )
  ]
