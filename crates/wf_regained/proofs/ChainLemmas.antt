-- Who sees an instance sees what that sees.
use Rattle.std.proofs.Common.{◌≡◌, ◌<◌, ℕ, true, List, [], ◌∷◌, ◌++◌, Option, Some, None, ◌⊎◌, inl, inr, sym, ◌∙◌}
use Rattle.std.proofs.Common.{subst, arith, true≢false}
use Rattle.wf_layers.specs.Definition.{Kind, Leaf, Scope, Choice, Foreach, Until, Branches, no_branch, branch, Graph, done, add}
use Rattle.wf_layers.specs.Definition.{IsBefore, more, next}
use Rattle.wf_layers.specs.Address.{Address, Lower, SeenIn, earlier_any, earlier_in, is_in, is_within, owner, together}
use Rattle.wf_layers.specs.Seen.{Once, OnceAny, OnceIn}
use Rattle.wf_layers.proofs.Basics.{index_once, unless, when}
use Rattle.wf_loops.proofs.NameLemmas.{earlier_has_any, not_in, together_has, within_has, within_starts}

-- paths are joined
joined : (g : Graph) (p q a : ℕ) → IsBefore g p q → IsBefore g q a → IsBefore g p a
joined g p q a one (next names) = more one names
joined g p q a one (more before names) = more (joined g p q _ one before) names

module _ (low : ℕ → ℕ → Type 0) (chain : (a b c : ℕ) → low a b → low b c → low a c) where
  lower_chain : (a b c : Option ℕ) → Lower low a b → Lower low b c → Lower low a c
  lower_chain None b c l m = absurd l
  lower_chain (Some a) None c l m = absurd l
  lower_chain (Some a) (Some b) None l m = absurd m
  lower_chain (Some a) (Some b) (Some c) l m = chain a b c l m

  -- what is together is in one action
  same_owner : (g : Graph) → Once g → (i : List ℕ) (y z : Address) → together low g i y z → owner g i y ≡ owner g i z
  same_owner done once i y z t = absurd t
  same_owner (add n after kind rest) once i y z (inl h) =
      when (is_in n kind i y) (Some n) (owner rest i y) h.1 ∙ sym (when (is_in n kind i z) (Some n) (owner rest i z) h.0)
  same_owner (add n after kind rest) once i y z (inr h) =
      unless (is_in n kind i y) (Some n) (owner rest i y) (not_in n kind rest i y once.1 (together_has low rest i y z h.1))
      ∙ (same_owner rest once.3 i y z h.1 ∙ sym (unless (is_in n kind i z) (Some n) (owner rest i z) h.0))

  abbrev InTurn : Graph → List ℕ → Address → Address → Type 0
  InTurn g i x y = Lower low (owner g i x) (owner g i y) ⊎ together low g i x y

  -- in one iteration of a loop
  abbrev OneTurn : Graph → List ℕ → Address → Address → Type 0
  OneTurn g i x y =
      (j : ℕ) × (is_within g (i ++ j ∷ []) x ≡ true) × (is_within g (i ++ j ∷ []) y ≡ true) × InTurn g (i ++ j ∷ []) x y

  same_turn : (g : Graph) (i : List ℕ) (j k : ℕ) (y : Address) → is_within g (i ++ j ∷ []) y ≡ true → is_within g (i ++ k ∷ []) y ≡ true
      → j ≡ k
  same_turn g i j k y one other =
      index_once i j k y.at (within_starts g (i ++ j ∷ []) y one) (within_starts g (i ++ k ∷ []) y other)

  moved : (g : Graph) (i : List ℕ) (j k : ℕ) (y : Address) → j ≡ k → is_within g (i ++ j ∷ []) y ≡ true
      → is_within g (i ++ k ∷ []) y ≡ true
  moved g i j k y same w = subst (λ (q : ℕ). is_within g (i ++ q ∷ []) y ≡ true) same w

  -- where what is together in a graph is chained, so is what is earlier there
  abbrev Chained : Graph → List ℕ → Address → Address → Address → Type 0
  Chained g i x y z = together low g i x y → together low g i y z → together low g i x z

  in_turn : (g : Graph) → Once g → (i : List ℕ) (x y z : Address) → Chained g i x y z → InTurn g i x y → InTurn g i y z → InTurn g i x z
  in_turn g once i x y z inner (inl e) (inl f) = inl (lower_chain (owner g i x) (owner g i y) (owner g i z) e f)
  in_turn g once i x y z inner (inl e) (inr f) =
      inl (subst (λ (o : Option ℕ). Lower low (owner g i x) o) (same_owner g once i y z f) e)
  in_turn g once i x y z inner (inr e) (inl f) =
      inl (subst (λ (o : Option ℕ). Lower low o (owner g i z)) (sym (same_owner g once i x y e)) f)
  in_turn g once i x y z inner (inr e) (inr f) = inr (inner e f)

  one_turn : (g : Graph) → Once g → (i : List ℕ) (x y z : Address) → ((j : ℕ) → Chained g (i ++ j ∷ []) x y z) → OneTurn g i x y
      → OneTurn g i y z → OneTurn g i x z
  one_turn g once i x y z inner e f =
      let same : f.0 ≡ e.0 = same_turn g i f.0 e.0 y f.1 e.2 in (
        e.0,
        e.1,
        moved g i f.0 e.0 z same f.2,
        in_turn g once (i ++ e.0 ∷ []) x y z (inner e.0) e.3 (subst (λ (q : ℕ). InTurn g (i ++ q ∷ []) y z) same f.3),
      )

  mutual
    kind_chain : (kind : Kind) → OnceIn kind → (i : List ℕ) (x y z : Address) → earlier_in low kind i x y → earlier_in low kind i y z
        → earlier_in low kind i x z
    kind_chain Leaf once i x y z e f = absurd e
    kind_chain (Scope g) once i x y z e f = (e.0, f.1, in_turn g once i x y z (λ t u. together_chain g once i x y z t u) e.2 f.2)
    kind_chain (Choice bs) once i x y z e f = any_chain bs once i x y z e f
    kind_chain (Foreach pace g) once i x y z (inl e) (inl f) =
        inl (one_turn g once i x y z (λ j t u. together_chain g once (i ++ j ∷ []) x y z t u) e f)
    kind_chain (Foreach pace g) once i x y z (inl e) (inr f) =
        inr (f.0, f.1, f.2, f.3, moved g i e.0 f.0 x (same_turn g i e.0 f.0 y e.2 f.4) e.1, f.5)
    kind_chain (Foreach pace g) once i x y z (inr e) (inl f) =
        inr (e.0, e.1, e.2, e.3, e.4, moved g i f.0 e.1 z (same_turn g i f.0 e.1 y f.1 e.5) f.2)
    kind_chain (Foreach pace g) once i x y z (inr e) (inr f) =
        let same : e.1 ≡ f.0 = same_turn g i e.1 f.0 y e.5 f.4 in
        let first : e.0 < e.1 = e.3 in
        let second : f.0 < f.1 = f.3 in
        inr (e.0, f.1, e.2, omega (arith, same, first, second), e.4, f.5)
    kind_chain (Until most g) once i x y z (inl e) (inl f) =
        inl (one_turn g once i x y z (λ j t u. together_chain g once (i ++ j ∷ []) x y z t u) e f)
    kind_chain (Until most g) once i x y z (inl e) (inr f) =
        inr (f.0, f.1, f.2, moved g i e.0 f.0 x (same_turn g i e.0 f.0 y e.2 f.3) e.1, f.4)
    kind_chain (Until most g) once i x y z (inr e) (inl f) =
        inr (e.0, e.1, e.2, e.3, moved g i f.0 e.1 z (same_turn g i f.0 e.1 y f.1 e.4) f.2)
    kind_chain (Until most g) once i x y z (inr e) (inr f) =
        let same : e.1 ≡ f.0 = same_turn g i e.1 f.0 y e.4 f.3 in
        let first : e.0 < e.1 = e.2 in
        let second : f.0 < f.1 = f.2 in
        inr (e.0, f.1, omega (arith, same, first, second), e.3, f.4)

    any_chain : (bs : Branches) → OnceAny bs → (i : List ℕ) (x y z : Address) → earlier_any low bs i x y → earlier_any low bs i y z
        → earlier_any low bs i x z
    any_chain no_branch once i x y z e f = absurd e
    any_chain (branch b rest) once i x y z (inl e) (inl f) =
        inl (e.0, f.1, in_turn b once.1 i x y z (λ t u. together_chain b once.1 i x y z t u) e.2 f.2)
    any_chain (branch b rest) once i x y z (inl e) (inr f) =
        absurd (true≢false (sym (earlier_has_any low rest i y z f).0 ∙ once.0 y.name (within_has b i y e.1)))
    any_chain (branch b rest) once i x y z (inr e) (inl f) =
        absurd (true≢false (sym (earlier_has_any low rest i x y e).1 ∙ once.0 y.name (within_has b i y f.0)))
    any_chain (branch b rest) once i x y z (inr e) (inr f) = inr (any_chain rest once.2 i x y z e f)

    together_chain : (g : Graph) → Once g → (i : List ℕ) (x y z : Address) → together low g i x y → together low g i y z
        → together low g i x z
    together_chain done once i x y z t u = absurd t
    together_chain (add n after kind rest) once i x y z (inl t) (inl u) = inl (u.0, t.1, kind_chain kind once.2 i x y z t.2 u.2)
    together_chain (add n after kind rest) once i x y z (inl t) (inr u) =
        absurd (true≢false (sym t.0 ∙ not_in n kind rest i y once.1 (together_has low rest i y z u.1)))
    together_chain (add n after kind rest) once i x y z (inr t) (inl u) = absurd (true≢false (sym u.1 ∙ t.0))
    together_chain (add n after kind rest) once i x y z (inr t) (inr u) = inr (u.0, together_chain rest once.3 i x y z t.1 u.1)

-- THE LAW
pub seen_chain : (g : Graph) → Once g → (x y z : Address) → SeenIn g y x → SeenIn g z y → SeenIn g z x
seen_chain g once x y z one other =
    let chain : (a b c : ℕ) → IsBefore g a b → IsBefore g b c → IsBefore g a c = λ a b c p q. joined g a b c p q in
    (one.0, in_turn (IsBefore g) chain g once [] x y z (λ t u. together_chain (IsBefore g) chain g once [] x y z t u) one.1 other.1)
