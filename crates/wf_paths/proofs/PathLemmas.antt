-- The nodes below n are stops enough, where edges lead to them alone.
use Rattle.std.proofs.Common.{◌≡◌, ℕ, zero, suc, ◌<◌, Bool, true, false, ◌||◌, ◌&&◌, ◌⊎◌, inl, inr, refl, subst, arith}
use Rattle.wf_paths.specs.Path.{IsPath, one, more, leads}

pub or_left : (a b : Bool) → a ≡ true → (a || b) ≡ true
or_left true b h = refl
or_left false b h = cc

pub or_right : (a b : Bool) → b ≡ true → (a || b) ≡ true
or_right true b h = refl
or_right false b h = h

pub or_split : (a b : Bool) → (a || b) ≡ true → (a ≡ true) ⊎ (b ≡ true)
or_split true b h = inl refl
or_split false b h = inr h

pub and_both : (a b : Bool) → a ≡ true → b ≡ true → (a && b) ≡ true
and_both true b h g = g
and_both false b h g = cc

pub and_split : (a b : Bool) → (a && b) ≡ true → (a ≡ true) × (b ≡ true)
and_split true b h = (refl, h)
and_split false b h = cc

same_or_less : (q k : ℕ) → q < suc k → (q ≡ k) ⊎ (q < k)
same_or_less zero zero h = inl refl
same_or_less zero (suc k) h = inr (omega arith)
same_or_less (suc q) zero h = absurd (omega (arith, h))
same_or_less (suc q) (suc k) h = elim (same_or_less q k (omega (arith, h))) [ inl is ↦ inl (cc) | inr less ↦ inr (omega (arith, less)) ]

module _ (edge : ℕ → ℕ → Bool) where
  joined : (p q a : ℕ) → IsPath edge p q → IsPath edge q a → IsPath edge p a
  joined p q a f (one e) = more f e
  joined p q a f (more {q = m} g e) = more (joined p q m f g) e

  pub sound : (k p a : ℕ) → leads edge k p a ≡ true → IsPath edge p a
  sound zero p a h = one h
  sound (suc k) p a h = elim (or_split (leads edge k p a) _ h) [
    | inl f ↦ sound k p a f
    | inr f ↦ let both = and_split (leads edge k k a) (leads edge k p k) f in joined p k a (sound k p k both.1) (sound k k a both.0)
  ]

  wider : (k p a : ℕ) → leads edge k p a ≡ true → leads edge (suc k) p a ≡ true
  wider k p a h = or_left (leads edge k p a) _ h

  by_stop : (k p a : ℕ) → leads edge k p k ≡ true → leads edge k k a ≡ true → leads edge (suc k) p a ≡ true
  by_stop k p a f g = or_right (leads edge k p a) _ (and_both (leads edge k k a) (leads edge k p k) g f)

  -- the ways of a path with stops below k + 1: it has no stop k, or goes to it and on from it
  abbrev Ways : ℕ → ℕ → ℕ → Type 0
  Ways k p a = (leads edge k p a ≡ true) ⊎ ((leads edge k p k ≡ true) × (leads edge k k a ≡ true))

  ways : (k p a : ℕ) → leads edge (suc k) p a ≡ true → Ways k p a
  ways k p a h = by (or_split (leads edge k p a) _ h)
    where
      by : (leads edge k p a ≡ true) ⊎ ((leads edge k k a && leads edge k p k) ≡ true) → Ways k p a
      by (inl f) = inl f
      by (inr f) = let both = and_split (leads edge k k a) (leads edge k p k) f in inr (both.1, both.0)

  to_last : (k p : ℕ) → Ways k p k → leads edge k p k ≡ true
  to_last k p (inl f) = f
  to_last k p (inr f) = f.0

  from_last : (k a : ℕ) → Ways k k a → leads edge k k a ≡ true
  from_last k a (inl f) = f
  from_last k a (inr f) = f.1

  cut : (k p q a : ℕ) → ((p' a' : ℕ) → leads edge k p' q ≡ true → leads edge k q a' ≡ true → leads edge k p' a' ≡ true) → Ways k p q →
      Ways k q a → leads edge (suc k) p a ≡ true
  cut k p q a less (inl f) (inl g) = wider k p a (less p a f g)
  cut k p q a less (inl f) (inr g) = by_stop k p a (less p k f g.0) g.1
  cut k p q a less (inr f) (inl g) = by_stop k p a f.0 (less k a f.1 g)
  cut k p q a less (inr f) (inr g) = by_stop k p a f.0 g.1

  -- paths join at a node that may be a stop
  pub at_stop : (k p q a : ℕ) → q < k → leads edge k p q ≡ true → leads edge k q a ≡ true → leads edge k p a ≡ true
  at_stop zero p q a within f g = absurd (omega (arith, within))
  at_stop (suc k) p q a within f g = elim (same_or_less q k within) [
    | inl is ↦ by_stop k p a (to_last k p (ways k p k (subst (λ (x : ℕ). leads edge (suc k) p x ≡ true) is f)))
        (from_last k a (ways k k a (subst (λ (x : ℕ). leads edge (suc k) x a ≡ true) is g)))
    | inr less ↦ cut k p q a (λ p' a' f' g'. at_stop k p' q a' less f' g') (ways k p q f) (ways k q a g)
  ]

  pub of_edge : (k p a : ℕ) → edge p a ≡ true → leads edge k p a ≡ true
  of_edge zero p a h = h
  of_edge (suc k) p a h = wider k p a (of_edge k p a h)

  -- a node that a path leads to has an edge to it
  pub target : (n : ℕ) → ((p a : ℕ) → edge p a ≡ true → a < n) → (p a : ℕ) → IsPath edge p a → a < n
  target n inside p a (one e) = inside p a e
  target n inside p a (more {q = q} f e) = inside q a e

  pub complete : (n : ℕ) → ((p a : ℕ) → edge p a ≡ true → a < n) → (p a : ℕ) → IsPath edge p a → leads edge n p a ≡ true
  complete n inside p a (one e) = of_edge n p a e
  complete n inside p a (more {q = q} f e) = at_stop n p q a (target n inside p q f) (complete n inside p q f) (of_edge n q a e)
