-- An instance in an earlier iteration of a loop round both, which goes one iteration after the other, is earlier.
use Rattle.std.proofs.Common.{◌≡◌, ℕ, ◌<◌, true, false, ◌&&◌, ◌||◌, List, [], ◌∷◌, ◌++◌, ◌⊎◌, inl, inr, refl, sym, ◌∙◌, subst}
use Rattle.std.proofs.Common.{true≢false, nat_eq, eqb-true, append_assoc}
use Rattle.std.specs.Prelude.{nat_lt}
use Rattle.std.proofs.lemmas.Bool.{ltb-true}
use Rattle.wf_order.specs.Definition.{Pace, InTurn, AtMost, Kind, Leaf, Scope, Choice, Foreach, Until, Branches, no_branch, branch, Graph}
use Rattle.wf_order.specs.Definition.{done, add, holds, has, has_any}
use Rattle.wf_order.specs.Address.{Address, starts, is_within, earlier_in, earlier_any, together}
use Rattle.wf_order.specs.Seen.{Once, OnceIn, OnceAny}
use Rattle.wf_order.proofs.Basics.{two, and_in, and_of, or_first, or_second, when, unless}
use Rattle.wf_loops.specs.Loops.{is_earlier, is_in_turn, paces_any, paces_in, paces_round}
use Rattle.wf_loops.proofs.NameLemmas.{not_in}
use Rattle.wf_loops.proofs.PrefixLemmas.{starts_front}

-- the loops that decide are round both
abbrev Decides : List Pace → List ℕ → List ℕ → Type 0
Decides ps xs ys = is_earlier ps xs ys false ≡ true

pub both_any : (bs : Branches) (x y : ℕ) (xs ys : List ℕ) → Decides (paces_any bs x y) xs ys → (has_any bs x ≡ true) × (has_any bs y ≡ true)
both_any no_branch x y xs ys e = absurd (true≢false (sym e))
both_any (branch b rest) x y xs ys e = elim (two (has b x && has b y)) [
  | inl t ↦ let h = and_in (has b x) (has b y) t in (or_first (has b x) (has_any rest x) h.0, or_first (has b y) (has_any rest y) h.1)
  | inr f ↦
      let h = both_any rest x y xs ys (subst (λ (ps : List Pace). Decides ps xs ys)
      (unless (has b x && has b y) (paces_round b x y) (paces_any rest x y) f) e) in
      (or_second (has b x) (has_any rest x) h.0, or_second (has b y) (has_any rest y) h.1)
]

pub both_of : (g : Graph) (x y : ℕ) (xs ys : List ℕ) → Decides (paces_round g x y) xs ys → (has g x ≡ true) × (has g y ≡ true)
both_of done x y xs ys e = absurd (true≢false (sym e))
both_of (add n after kind rest) x y xs ys e = elim (two (holds kind x && holds kind y)) [
  | inl t ↦ let h = and_in (holds kind x) (holds kind y) t in (
    or_first (nat_eq n x || holds kind x) (has rest x) (or_second (nat_eq n x) (holds kind x) h.0),
    or_first (nat_eq n y || holds kind y) (has rest y) (or_second (nat_eq n y) (holds kind y) h.1),
  )
  | inr f ↦
      let h = both_of rest x y xs ys (subst (λ (ps : List Pace). Decides ps xs ys)
      (unless (holds kind x && holds kind y) (paces_in kind x y) (paces_round rest x y) f) e) in
      (or_second (nat_eq n x || holds kind x) (has rest x) h.0, or_second (nat_eq n y || holds kind y) (has rest y) h.1)
]

-- addresses whose indexes go on from those of a graph
abbrev At : List ℕ → List ℕ → Address → Type 0
At i xs x = x.at ≡ i ++ xs

at_starts : (i xs : List ℕ) (x : Address) → At i xs x → starts i x.at ≡ true
at_starts i xs x is = subst (λ (at : List ℕ). starts i at ≡ true) (sym is) (starts_front i xs)

at_next : (i : List ℕ) (a : ℕ) (xs : List ℕ) (x : Address) → At i (a ∷ xs) x → At (i ++ a ∷ []) xs x
at_next i a xs x is = is ∙ sym (append_assoc i (a ∷ []) xs)

within : (g : Graph) (i xs : List ℕ) (x : Address) → has g x.name ≡ true → At i xs x → is_within g i x ≡ true
within g i xs x h is = and_of (has g x.name) (starts i x.at) h (at_starts i xs x is)

pace_is : (p : Pace) → is_in_turn p ≡ true → p ≡ InTurn
pace_is InTurn e = refl
pace_is (AtMost unfinished) e = absurd (true≢false (sym e))

same_index : (a b : ℕ) (i ys : List ℕ) (y : Address) → nat_eq a b ≡ true → At i (b ∷ ys) y → At i (a ∷ ys) y
same_index a b i ys y t js = subst (λ (k : ℕ). At i (k ∷ ys) y) (sym (eqb-true a b t)) js

module _ (low : ℕ → ℕ → Type 0) where
  -- in a loop, where the index of one is less or where a loop further inside decides
  abbrev Turned : Pace → Graph → List ℕ → Address → Address → Type 0
  Turned pace g i x y =
      ((j : ℕ) × (is_within g (i ++ j ∷ []) x ≡ true) × (is_within g (i ++ j ∷ []) y ≡ true) × together low g (i ++ j ∷ []) x y)
      ⊎ ((j : ℕ) × (m : ℕ) × (pace ≡ InTurn) × (j < m) × (is_within g (i ++ j ∷ []) x ≡ true) × (is_within g (i ++ m ∷ []) y ≡ true))

  turned : (pace : Pace) (g : Graph) (x y : Address) (i xs ys : List ℕ)
      → ((j : ℕ) (us vs : List ℕ) → At (i ++ j ∷ []) us x → At (i ++ j ∷ []) vs y → Decides (paces_round g x.name y.name) us vs
      → together low g (i ++ j ∷ []) x y)
      → At i xs x → At i ys y → has g x.name ≡ true → has g y.name ≡ true → Decides (pace ∷ paces_round g x.name y.name) xs ys
      → Turned pace g i x y
  turned pace g x y i [] ys deeper is js hx hy e = absurd (true≢false (sym e))
  turned pace g x y i (a ∷ xs) [] deeper is js hx hy e = absurd (true≢false (sym e))
  turned pace g x y i (a ∷ xs) (b ∷ ys) deeper is js hx hy e = elim (two (nat_eq a b)) [
    | inl t ↦
        let here : At i (a ∷ ys) y = same_index a b i ys y t js in
        inl (
          a,
          within g (i ++ a ∷ []) xs x hx (at_next i a xs x is),
          within g (i ++ a ∷ []) ys y hy (at_next i a ys y here),
          deeper a xs ys (at_next i a xs x is) (at_next i a ys y here)
              (sym (when (nat_eq a b) (is_earlier (paces_round g x.name y.name) xs ys false) (is_in_turn pace && nat_lt a b) t) ∙ e),
        )
    | inr f ↦
        let h = and_in (is_in_turn pace) (nat_lt a b)
        (sym (unless (nat_eq a b) (is_earlier (paces_round g x.name y.name) xs ys false) (is_in_turn pace && nat_lt a b) f) ∙ e) in
        inr (
          a,
          b,
          pace_is pace h.0,
          ltb-true a b h.1,
          within g (i ++ a ∷ []) xs x hx (at_next i a xs x is),
          within g (i ++ b ∷ []) ys y hy (at_next i b ys y js),
        )
  ]

  mutual
    pub turn_in : (kind : Kind) (x y : Address) (i xs ys : List ℕ) → OnceIn kind → At i xs x → At i ys y → holds kind x.name ≡ true
        → holds kind y.name ≡ true → Decides (paces_in kind x.name y.name) xs ys → earlier_in low kind i x y
    turn_in Leaf x y i xs ys once is js hx hy e = absurd (true≢false (sym e))
    turn_in (Scope g) x y i xs ys once is js hx hy e =
        (within g i xs x hx is, within g i ys y hy js, inr (turn_of g x y i xs ys once is js e))
    turn_in (Choice bs) x y i xs ys once is js hx hy e = turn_any bs x y i xs ys once is js e
    turn_in (Foreach pace g) x y i xs ys once is js hx hy e = elim
        (turned pace g x y i xs ys (λ j us vs. turn_of g x y (i ++ j ∷ []) us vs once) is js hx hy e) [
          | inl h ↦ inl (h.0, h.1, h.2, inr h.3)
          | inr h ↦ inr h
        ]
    turn_in (Until most g) x y i xs ys once is js hx hy e = elim
        (turned InTurn g x y i xs ys (λ j us vs. turn_of g x y (i ++ j ∷ []) us vs once) is js hx hy e) [
          | inl h ↦ inl (h.0, h.1, h.2, inr h.3)
          | inr h ↦ inr (h.0, h.1, h.3, h.4, h.5)
        ]

    pub turn_any : (bs : Branches) (x y : Address) (i xs ys : List ℕ) → OnceAny bs → At i xs x → At i ys y
        → Decides (paces_any bs x.name y.name) xs ys → earlier_any low bs i x y
    turn_any no_branch x y i xs ys once is js e = absurd (true≢false (sym e))
    turn_any (branch b rest) x y i xs ys once is js e = elim (two (has b x.name && has b y.name)) [
      | inl t ↦
          let h = and_in (has b x.name) (has b y.name) t in
          inl (
            within b i xs x h.0 is,
            within b i ys y h.1 js,
            inr (turn_of b x y i xs ys once.1 is js
                (subst (λ (ps : List Pace). Decides ps xs ys)
                (when (has b x.name && has b y.name) (paces_round b x.name y.name) (paces_any rest x.name y.name) t) e)),
          )
      | inr f ↦ inr (turn_any rest x y i xs ys once.2 is js (subst (λ (ps : List Pace). Decides ps xs ys)
          (unless (has b x.name && has b y.name) (paces_round b x.name y.name) (paces_any rest x.name y.name) f) e))
    ]

    pub turn_of : (g : Graph) (x y : Address) (i xs ys : List ℕ) → Once g → At i xs x → At i ys y → Decides
        (paces_round g x.name y.name) xs ys
        → together low g i x y
    turn_of done x y i xs ys once is js e = absurd (true≢false (sym e))
    turn_of (add n after kind rest) x y i xs ys once is js e = elim (two (holds kind x.name && holds kind y.name)) [
      | inl t ↦
          let h = and_in (holds kind x.name) (holds kind y.name) t in
          inl (
            and_of (nat_eq n y.name || holds kind y.name) (starts i y.at) (or_second (nat_eq n y.name) (holds kind y.name) h.1)
                (at_starts i ys y js),
            and_of (nat_eq n x.name || holds kind x.name) (starts i x.at) (or_second (nat_eq n x.name) (holds kind x.name) h.0)
                (at_starts i xs x is),
            turn_in kind x y i xs ys once.2 is js h.0 h.1 (subst (λ (ps : List Pace). Decides ps xs ys)
                (when (holds kind x.name && holds kind y.name) (paces_in kind x.name y.name) (paces_round rest x.name y.name) t) e),
          )
      | inr f ↦
          let e' = subst (λ (ps : List Pace). Decides ps xs ys)
          (unless (holds kind x.name && holds kind y.name) (paces_in kind x.name y.name) (paces_round rest x.name y.name) f) e in
          inr (not_in n kind rest i y once.1 (both_of rest x.name y.name xs ys e').1, turn_of rest x y i xs ys once.3 is js e')
    ]
