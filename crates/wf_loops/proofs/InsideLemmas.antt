-- What a point sees of a container it sees of all that stands inside it, at indexes that begin with the container's.
use Rattle.std.proofs.Common.{◌≡◌, ℕ, true, false, ◌||◌, cond, List, [], ◌∷◌, ◌++◌, Option, Some, ◌⊎◌, inl, inr, refl, sym, ◌∙◌, subst}
use Rattle.std.proofs.Common.{true≢false, nat_eq, eqb-true}
use Rattle.std.proofs.lemmas.Option.{none-some}
use Rattle.wf_order.specs.Definition.{Kind, Leaf, Scope, Choice, Foreach, Until, Branches, no_branch, branch, Graph, done, add, holds, has}
use Rattle.wf_order.specs.Definition.{has_any, kind_in, kind_any, kind_of, IsBefore}
use Rattle.wf_order.specs.Address.{Address, starts, is_in, is_within, owner, Lower, earlier_in, earlier_any, together, SeenIn}
use Rattle.wf_order.specs.Seen.{Once, OnceIn, OnceAny}
use Rattle.wf_order.proofs.Basics.{two, and_in, and_of, or_first, or_second, when, unless}
use Rattle.wf_order.proofs.Tables.{has_in, holds_in}
use Rattle.wf_loops.proofs.NameLemmas.{not_in, within_starts, earlier_has, earlier_has_any, together_has}
use Rattle.wf_loops.proofs.PrefixLemmas.{starts_along}

-- where an action stands whose kind is known
pub data Stands (n : ℕ) (kind : Kind) (rest : Graph) (m : ℕ) (k : Kind) : Type 0 where
  at_first : nat_eq n m ≡ true → kind ≡ k → Stands n kind rest m k
  in_first : holds kind m ≡ true → kind_in kind m ≡ Some k → Stands n kind rest m k
  behind_first : kind_of rest m ≡ Some k → Stands n kind rest m k

pub stands : (n : ℕ) (kind : Kind) (rest : Graph) (m : ℕ) (k : Kind)
    → cond (nat_eq n m) (Some kind) (cond (holds kind m) (kind_in kind m) (kind_of rest m)) ≡ Some k → Stands n kind rest m k
stands n kind rest m k e = elim (two (nat_eq n m)) [
  | inl t ↦ let s : Some kind ≡ Some k = sym (when (nat_eq n m) (Some kind) (cond (holds kind m) (kind_in kind m) (kind_of rest m)) t)
      ∙ e in
      at_first t cc
  | inr f ↦
      let e' = sym (unless (nat_eq n m) (Some kind) (cond (holds kind m) (kind_in kind m) (kind_of rest m)) f) ∙ e in
      elim (two (holds kind m)) [
        | inl t ↦ in_first t (sym (when (holds kind m) (kind_in kind m) (kind_of rest m) t) ∙ e')
        | inr g ↦ behind_first (sym (unless (holds kind m) (kind_in kind m) (kind_of rest m) g) ∙ e')
      ]
]

mutual
  pub kind_has_in : (kind : Kind) (m : ℕ) (k : Kind) → kind_in kind m ≡ Some k → holds kind m ≡ true
  kind_has_in Leaf m k e = absurd (none-some k e)
  kind_has_in (Scope g) m k e = kind_has g m k e
  kind_has_in (Choice bs) m k e = kind_has_any bs m k e
  kind_has_in (Foreach pace g) m k e = kind_has g m k e
  kind_has_in (Until most g) m k e = kind_has g m k e

  pub kind_has_any : (bs : Branches) (m : ℕ) (k : Kind) → kind_any bs m ≡ Some k → has_any bs m ≡ true
  kind_has_any no_branch m k e = absurd (none-some k e)
  kind_has_any (branch b rest) m k e = elim (two (has b m)) [
    | inl t ↦ or_first (has b m) (has_any rest m) t
    | inr f ↦ or_second (has b m) (has_any rest m) (kind_has_any rest m k (sym (unless (has b m) (kind_of b m) (kind_any rest m) f) ∙ e))
  ]

  pub kind_has : (g : Graph) (m : ℕ) (k : Kind) → kind_of g m ≡ Some k → has g m ≡ true
  kind_has done m k e = absurd (none-some k e)
  kind_has (add n after kind rest) m k e = elim (two (nat_eq n m)) [
    | inl t ↦ or_first (nat_eq n m || holds kind m) (has rest m) (or_first (nat_eq n m) (holds kind m) t)
    | inr f ↦
        let e' = sym (unless (nat_eq n m) (Some kind) (cond (holds kind m) (kind_in kind m) (kind_of rest m)) f) ∙ e in
        elim (two (holds kind m)) [
          | inl t ↦ or_first (nat_eq n m || holds kind m) (has rest m) (or_second (nat_eq n m) (holds kind m) t)
          | inr g ↦ or_second (nat_eq n m || holds kind m) (has rest m)
              (kind_has rest m k (sym (unless (holds kind m) (kind_in kind m) (kind_of rest m) g) ∙ e'))
        ]
  ]

-- The container y and what stands inside it, x.
module _ (low : ℕ → ℕ → Type 0) (y x : Address) (k : Kind) (inner : holds k x.name ≡ true) (goes_on : starts y.at x.at ≡ true) where
  from : (i : List ℕ) → starts i y.at ≡ true → starts i x.at ≡ true
  from i s = starts_along i y.at x.at s goes_on

  in_of : (n : ℕ) (kind : Kind) (i : List ℕ) (u : Address) → (nat_eq n u.name || holds kind u.name) ≡ true → starts i u.at ≡ true
      → is_in n kind i u ≡ true
  in_of n kind i u h s = and_of (nat_eq n u.name || holds kind u.name) (starts i u.at) h s

  both_owned : (n : ℕ) (kind : Kind) (rest : Graph) (i : List ℕ) → starts i y.at ≡ true → (nat_eq n y.name || holds kind y.name) ≡ true
      → holds kind x.name ≡ true
      → cond (is_in n kind i x) (Some n) (owner rest i x) ≡ cond (is_in n kind i y) (Some n) (owner rest i y)
  both_owned n kind rest i s hy hx =
      when (is_in n kind i x) (Some n) (owner rest i x) (in_of n kind i x (or_second (nat_eq n x.name) (holds kind x.name) hx) (from i s))
      ∙ sym (when (is_in n kind i y) (Some n) (owner rest i y) (in_of n kind i y hy s))

  pub owner_inside : (g : Graph) (i : List ℕ) → Once g → kind_of g y.name ≡ Some k → starts i y.at ≡ true → owner g i x ≡ owner g i y
  owner_inside done i once e s = absurd (none-some k e)
  owner_inside (add n after kind rest) i once e s = elim (stands n kind rest y.name k e) [
    | at_first t is ↦ both_owned n kind rest i s (or_first (nat_eq n y.name) (holds kind y.name) t)
        (subst (λ (q : Kind). holds q x.name ≡ true) (sym is) inner)
    | in_first t is ↦ both_owned n kind rest i s (or_second (nat_eq n y.name) (holds kind y.name) t)
        (holds_in kind y.name x.name k is inner)
    | behind_first is ↦
        unless (is_in n kind i x) (Some n) (owner rest i x) (not_in n kind rest i x once.1 (has_in rest y.name x.name k is inner))
        ∙ (owner_inside rest i once.3 is s
        ∙ sym (unless (is_in n kind i y) (Some n) (owner rest i y) (not_in n kind rest i y once.1 (kind_has rest y.name k is))))
  ]

  within_of : (g : Graph) (i : List ℕ) → kind_of g y.name ≡ Some k → is_within g i y ≡ true → is_within g i x ≡ true
  within_of g i e w = and_of (has g x.name) (starts i x.at) (has_in g y.name x.name k e inner) (from i (within_starts g i y w))

  -- earlier by the actions of one graph, or inside one of them
  abbrev Sides : Graph → List ℕ → Address → Address → Type 0
  Sides g i u z = Lower low (owner g i u) (owner g i z) ⊎ together low g i u z

  sides : (g : Graph) (i : List ℕ) (z : Address) → (together low g i y z → together low g i x z) → Once g → kind_of g y.name ≡ Some k
      → starts i y.at ≡ true → Sides g i y z → Sides g i x z
  sides g i z deeper once e s (inl lower) = inl (subst (λ (o : Option ℕ). Lower low o (owner g i z))
      (sym (owner_inside g i once e s)) lower)
  sides g i z deeper once e s (inr t) = inr (deeper t)

  mutual
    pub inside_in : (kind : Kind) (i : List ℕ) (z : Address) → OnceIn kind → kind_in kind y.name ≡ Some k → earlier_in low kind i y z
        → earlier_in low kind i x z
    inside_in Leaf i z once e h = absurd h
    inside_in (Scope g) i z once e h =
        (within_of g i e h.0, h.1, sides g i z (inside_of g i z once e (within_starts g i y h.0)) once e (within_starts g i y h.0) h.2)
    inside_in (Choice bs) i z once e h = inside_any bs i z once e h
    inside_in (Foreach pace g) i z once e (inl h) =
        let s = within_starts g (i ++ h.0 ∷ []) y h.1 in
        inl (
          h.0,
          within_of g (i ++ h.0 ∷ []) e h.1,
          h.2,
          sides g (i ++ h.0 ∷ []) z (inside_of g (i ++ h.0 ∷ []) z once e s) once e s h.3,
        )
    inside_in (Foreach pace g) i z once e (inr h) = inr (h.0, h.1, h.2, h.3, within_of g (i ++ h.0 ∷ []) e h.4, h.5)
    inside_in (Until most g) i z once e (inl h) =
        let s = within_starts g (i ++ h.0 ∷ []) y h.1 in
        inl (
          h.0,
          within_of g (i ++ h.0 ∷ []) e h.1,
          h.2,
          sides g (i ++ h.0 ∷ []) z (inside_of g (i ++ h.0 ∷ []) z once e s) once e s h.3,
        )
    inside_in (Until most g) i z once e (inr h) = inr (h.0, h.1, h.2, within_of g (i ++ h.0 ∷ []) e h.3, h.4)

    pub inside_any : (bs : Branches) (i : List ℕ) (z : Address) → OnceAny bs → kind_any bs y.name ≡ Some k → earlier_any low bs i y z
        → earlier_any low bs i x z
    inside_any no_branch i z once e h = absurd h
    inside_any (branch b rest) i z once e (inl h) =
        let here = sym (when (has b y.name) (kind_of b y.name) (kind_any rest y.name) (and_in (has b y.name) (starts i y.at) h.0).0) ∙ e in
        let s = within_starts b i y h.0 in
        inl (within_of b i here h.0, h.1, sides b i z (inside_of b i z once.1 here s) once.1 here s h.2)
    inside_any (branch b rest) i z once e (inr h) = elim (two (has b y.name)) [
      | inl t ↦ absurd (true≢false (sym (earlier_has_any low rest i y z h).0 ∙ once.0 y.name t))
      | inr f ↦ inr (inside_any rest i z once.2 (sym (unless (has b y.name) (kind_of b y.name) (kind_any rest y.name) f) ∙ e) h)
    ]

    pub inside_of : (g : Graph) (i : List ℕ) (z : Address) → Once g → kind_of g y.name ≡ Some k → starts i y.at ≡ true
        → together low g i y z → together low g i x z
    inside_of done i z once e s h = absurd h
    inside_of (add n after kind rest) i z once e s (inl h) = elim (stands n kind rest y.name k e) [
      | at_first t is ↦ absurd (true≢false (sym (earlier_has low kind i y z h.2).0 ∙ subst (λ (m : ℕ). holds kind m ≡ false)
          (eqb-true n y.name t) once.0))
      | in_first t is ↦ inl (
        h.0,
        in_of n kind i x (or_second (nat_eq n x.name) (holds kind x.name) (holds_in kind y.name x.name k is inner)) (from i s),
        inside_in kind i z once.2 is h.2,
      )
      | behind_first is ↦ absurd (true≢false (sym h.1 ∙ not_in n kind rest i y once.1 (kind_has rest y.name k is)))
    ]
    inside_of (add n after kind rest) i z once e s (inr h) = elim (stands n kind rest y.name k e) [
      | at_first t is ↦ absurd (true≢false (sym (together_has low rest i y z h.1) ∙ once.1 y.name
          (or_first (nat_eq n y.name) (holds kind y.name) t)))
      | in_first t is ↦ absurd (true≢false (sym (together_has low rest i y z h.1) ∙ once.1 y.name
          (or_second (nat_eq n y.name) (holds kind y.name) t)))
      | behind_first is ↦ inr (h.0, inside_of rest i z once.3 is s h.1)
    ]

-- THE LAW
pub seen_inside : (g : Graph) → Once g → (y x z : Address) (k : Kind) → kind_of g y.name ≡ Some k → holds k x.name ≡ true
    → starts y.at x.at ≡ true → SeenIn g z y → SeenIn g z x
seen_inside g once y x z k e inner goes_on seen = (
  and_of (has g x.name) true (has_in g y.name x.name k e inner) refl,
  sides (IsBefore g) y x k inner goes_on g [] z (inside_of (IsBefore g) y x k inner goes_on g [] z once e refl) once e refl seen.1,
)
