-- A point that sees an instance sees each loop that is round the instance and not round the point: the row that says how many iterations
-- it had.
use Rattle.std.proofs.Common.{◌≡◌, ℕ, ◌+◌, Bool, true, ◌&&◌, ◌||◌, cond, List, [], ◌∷◌, ◌++◌, length, Option, Some, ◌⊎◌, inl, inr, refl}
use Rattle.std.proofs.Common.{sym, ap, ◌∙◌, subst, arith, true≢false, nat_eq, eq-eqb, length-append}
use Rattle.wf_order.specs.Definition.{Pace, InTurn, Kind, Leaf, Scope, Choice, Foreach, Until, Branches, no_branch, branch, Graph, done}
use Rattle.wf_order.specs.Definition.{add, holds, has, has_any, IsBefore}
use Rattle.wf_order.specs.Address.{Address, address, starts, is_in, is_within, owner, Lower, earlier_in, earlier_any, together, SeenIn}
use Rattle.wf_order.specs.Seen.{Once, OnceIn, OnceAny}
use Rattle.wf_order.proofs.Basics.{two, and_of, or_first, or_second, when, unless}
use Rattle.wf_loops.specs.Loops.{loops_any, loops_in, loops_of, left_any, left_in, left_round, paces_any, paces_in, paces_round}
use Rattle.wf_loops.proofs.NameLemmas.{not_in, within_has, within_starts, earlier_has, earlier_has_any, together_has}
use Rattle.wf_loops.proofs.PrefixLemmas.{starts_shorter}

pub nothing_first : {l : ℕ} {ls : List ℕ} → [] ≡ l ∷ ls → ⊥
nothing_first e = cc

pub first_is : {n l : ℕ} {ns ls : List ℕ} → n ∷ ns ≡ l ∷ ls → n ≡ l
first_is e = cc

-- ---- the loops are in the definition

mutual
  pub loops_has_in : (n : ℕ) (kind : Kind) (x l : ℕ) (ls : List ℕ) → loops_in n kind x ≡ l ∷ ls → (nat_eq n l || holds kind l) ≡ true
  loops_has_in n Leaf x l ls e = absurd (nothing_first e)
  loops_has_in n (Scope g) x l ls e = or_second (nat_eq n l) (has g l) (loops_has g x l ls e)
  loops_has_in n (Choice bs) x l ls e = or_second (nat_eq n l) (has_any bs l) (loops_has_any bs x l ls e)
  loops_has_in n (Foreach pace g) x l ls e = or_first (nat_eq n l) (has g l) (eq-eqb n l (first_is e))
  loops_has_in n (Until most g) x l ls e = or_first (nat_eq n l) (has g l) (eq-eqb n l (first_is e))

  pub loops_has_any : (bs : Branches) (x l : ℕ) (ls : List ℕ) → loops_any bs x ≡ l ∷ ls → has_any bs l ≡ true
  loops_has_any no_branch x l ls e = absurd (nothing_first e)
  loops_has_any (branch b rest) x l ls e = elim (two (has b x)) [
    | inl t ↦ or_first (has b l) (has_any rest l) (loops_has b x l ls (sym (when (has b x) (loops_of b x) (loops_any rest x) t) ∙ e))
    | inr f ↦ or_second (has b l) (has_any rest l) (loops_has_any rest x l ls
        (sym (unless (has b x) (loops_of b x) (loops_any rest x) f) ∙ e))
  ]

  pub loops_has : (g : Graph) (x l : ℕ) (ls : List ℕ) → loops_of g x ≡ l ∷ ls → has g l ≡ true
  loops_has done x l ls e = absurd (nothing_first e)
  loops_has (add n after kind rest) x l ls e = elim (two (holds kind x)) [
    | inl t ↦ or_first (nat_eq n l || holds kind l) (has rest l)
        (loops_has_in n kind x l ls (sym (when (holds kind x) (loops_in n kind x) (loops_of rest x) t) ∙ e))
    | inr f ↦ or_second (nat_eq n l || holds kind l) (has rest l)
        (loops_has rest x l ls (sym (unless (holds kind x) (loops_in n kind x) (loops_of rest x) f) ∙ e))
  ]

-- in a graph, of which the one stands in the first action or behind it
abbrev Choose : Bool → Bool → List ℕ → List ℕ → List ℕ → List ℕ
Choose hx hy both one none = cond hx (cond hy both one) none

first_by : (n : ℕ) (kind : Kind) (x y l : ℕ) (ls : List ℕ) → (left_in kind x y ≡ l ∷ ls → holds kind l ≡ true)
    → cond (holds kind y) (left_in kind x y) (loops_in n kind x) ≡ l ∷ ls → (nat_eq n l || holds kind l) ≡ true
first_by n kind x y l ls deeper e = elim (two (holds kind y)) [
  | inl u ↦ or_second (nat_eq n l) (holds kind l) (deeper (sym (when (holds kind y) (left_in kind x y) (loops_in n kind x) u) ∙ e))
  | inr g ↦ loops_has_in n kind x l ls (sym (unless (holds kind y) (left_in kind x y) (loops_in n kind x) g) ∙ e)
]

mutual
  left_has_in : (kind : Kind) (x y l : ℕ) (ls : List ℕ) → left_in kind x y ≡ l ∷ ls → holds kind l ≡ true
  left_has_in Leaf x y l ls e = absurd (nothing_first e)
  left_has_in (Scope g) x y l ls e = (left_has g x y l ls e).1
  left_has_in (Choice bs) x y l ls e = left_has_any bs x y l ls e
  left_has_in (Foreach pace g) x y l ls e = (left_has g x y l ls e).1
  left_has_in (Until most g) x y l ls e = (left_has g x y l ls e).1

  left_has_any : (bs : Branches) (x y l : ℕ) (ls : List ℕ) → left_any bs x y ≡ l ∷ ls → has_any bs l ≡ true
  left_has_any no_branch x y l ls e = absurd (nothing_first e)
  left_has_any (branch b rest) x y l ls e = elim (two (has b x)) [
    | inl t ↦
        let e' = sym (when (has b x) (cond (has b y) (left_round b x y) (loops_of b x)) (left_any rest x y) t) ∙ e in
        or_first (has b l) (has_any rest l) (elim (two (has b y)) [
          | inl u ↦ (left_has b x y l ls (sym (when (has b y) (left_round b x y) (loops_of b x) u) ∙ e')).1
          | inr g ↦ loops_has b x l ls (sym (unless (has b y) (left_round b x y) (loops_of b x) g) ∙ e')
        ])
    | inr f ↦ or_second (has b l) (has_any rest l) (left_has_any rest x y l ls
        (sym (unless (has b x) (cond (has b y) (left_round b x y) (loops_of b x)) (left_any rest x y) f) ∙ e))
  ]

  pub left_has : (g : Graph) (x y l : ℕ) (ls : List ℕ) → left_round g x y ≡ l ∷ ls → (has g x ≡ true) × (has g l ≡ true)
  left_has done x y l ls e = absurd (nothing_first e)
  left_has (add n after kind rest) x y l ls e = elim (two (holds kind x)) [
    | inl t ↦
        let e' = sym (when (holds kind x) (cond (holds kind y) (left_in kind x y) (loops_in n kind x)) (left_round rest x y) t) ∙ e in (
          or_first (nat_eq n x || holds kind x) (has rest x) (or_second (nat_eq n x) (holds kind x) t),
          or_first (nat_eq n l || holds kind l) (has rest l) (first_by n kind x y l ls (left_has_in kind x y l ls) e'),
        )
    | inr f ↦
        let h = left_has rest x y l ls
        (sym (unless (holds kind x) (cond (holds kind y) (left_in kind x y) (loops_in n kind x)) (left_round rest x y) f) ∙ e) in
        (or_second (nat_eq n x || holds kind x) (has rest x) h.0, or_second (nat_eq n l || holds kind l) (has rest l) h.1)
  ]

first_holds : (n : ℕ) (kind : Kind) (x y l : ℕ) (ls : List ℕ) → cond (holds kind y) (left_in kind x y) (loops_in n kind x) ≡ l ∷ ls
    → (nat_eq n l || holds kind l) ≡ true
first_holds n kind x y l ls e = first_by n kind x y l ls (left_has_in kind x y l ls) e

-- ---- the loop l is left by a reference from z to x; a are the indexes in the loops round both
module _ (low : ℕ → ℕ → Type 0) (x z : Address) (l : ℕ) (ls a : List ℕ) (sx : starts a x.at ≡ true) where
  abbrev Loop : Address
  Loop = address l a

  -- the indexes of a graph are as many as the loops round both outside of it
  abbrev Depth : List Pace → List ℕ → Type 0
  Depth ps i = length a ≡ length i + length ps

  front_of : (i : List ℕ) (ps : List Pace) → Depth ps i → starts i x.at ≡ true → starts i a ≡ true
  front_of i ps dep s = starts_shorter i a x.at s sx (omega (arith, dep))

  pub owner_left : (g : Graph) (i : List ℕ) → Once g → left_round g x.name z.name ≡ l ∷ ls → starts i a ≡ true → starts i x.at ≡ true
      → owner g i Loop ≡ owner g i x
  owner_left done i once e s t = absurd (nothing_first e)
  owner_left (add n after kind rest) i once e s t = elim (two (holds kind x.name)) [
    | inl h ↦
        let e' = sym (when (holds kind x.name) (cond (holds kind z.name) (left_in kind x.name z.name) (loops_in n kind x.name))
        (left_round rest x.name z.name) h) ∙ e in
        when (is_in n kind i Loop) (Some n) (owner rest i Loop)
        (and_of (nat_eq n l || holds kind l) (starts i a) (first_holds n kind x.name z.name l ls e') s)
        ∙ sym (when (is_in n kind i x) (Some n) (owner rest i x)
        (and_of (nat_eq n x.name || holds kind x.name) (starts i x.at) (or_second (nat_eq n x.name) (holds kind x.name) h) t))
    | inr f ↦
        let e' = sym (unless (holds kind x.name) (cond (holds kind z.name) (left_in kind x.name z.name) (loops_in n kind x.name))
        (left_round rest x.name z.name) f) ∙ e in
        let h = left_has rest x.name z.name l ls e' in
        unless (is_in n kind i Loop) (Some n) (owner rest i Loop) (not_in n kind rest i Loop once.1 h.1)
        ∙ (owner_left rest i once.3 e' s t
        ∙ sym (unless (is_in n kind i x) (Some n) (owner rest i x) (not_in n kind rest i x once.1 h.0)))
  ]

  abbrev Sides : Graph → List ℕ → Address → Type 0
  Sides g i u = Lower low (owner g i u) (owner g i z) ⊎ together low g i u z

  sides : (g : Graph) (i : List ℕ) → (together low g i x z → together low g i Loop z) → Once g → left_round g x.name z.name ≡ l ∷ ls
      → starts i a ≡ true → starts i x.at ≡ true → Sides g i x → Sides g i Loop
  sides g i deeper once e s t (inl lower) = inl (subst (λ (o : Option ℕ). Lower low o (owner g i z))
      (sym (owner_left g i once e s t)) lower)
  sides g i deeper once e s t (inr h) = inr (deeper h)

  loop_within : (g : Graph) (i : List ℕ) → left_round g x.name z.name ≡ l ∷ ls → starts i a ≡ true → is_within g i Loop ≡ true
  loop_within g i e s = and_of (has g l) (starts i a) (left_has g x.name z.name l ls e).1 s

  -- one index deeper
  deeper_by : (i : List ℕ) (j : ℕ) (p : Pace) (ps : List Pace) → Depth (p ∷ ps) i → Depth ps (i ++ j ∷ [])
  deeper_by i j p ps dep = omega (arith, dep, length-append i (j ∷ []))

  mutual
    pub left_earlier : (kind : Kind) (i : List ℕ) → OnceIn kind → left_in kind x.name z.name ≡ l ∷ ls
        → Depth (paces_in kind x.name z.name) i → earlier_in low kind i x z → earlier_in low kind i Loop z
    left_earlier Leaf i once e dep h = absurd h
    left_earlier (Scope g) i once e dep h =
        let t = within_starts g i x h.0 in
        let s = front_of i (paces_round g x.name z.name) dep t in
        (loop_within g i e s, h.1, sides g i (left_together g i once e dep t) once e s t h.2)
    left_earlier (Choice bs) i once e dep h = left_earlier_any bs i once e dep h
    left_earlier (Foreach pace g) i once e dep (inl h) =
        let t = within_starts g (i ++ h.0 ∷ []) x h.1 in
        let dep' = deeper_by i h.0 pace (paces_round g x.name z.name) dep in
        let s = front_of (i ++ h.0 ∷ []) (paces_round g x.name z.name) dep' t in
        inl (
          h.0,
          loop_within g (i ++ h.0 ∷ []) e s,
          h.2,
          sides g (i ++ h.0 ∷ []) (left_together g (i ++ h.0 ∷ []) once e dep' t) once e s t h.3,
        )
    left_earlier (Foreach pace g) i once e dep (inr h) =
        let t = within_starts g (i ++ h.0 ∷ []) x h.4 in
        let s = front_of (i ++ h.0 ∷ []) (paces_round g x.name z.name) (deeper_by i h.0 pace (paces_round g x.name z.name) dep) t in
        inr (h.0, h.1, h.2, h.3, loop_within g (i ++ h.0 ∷ []) e s, h.5)
    left_earlier (Until most g) i once e dep (inl h) =
        let t = within_starts g (i ++ h.0 ∷ []) x h.1 in
        let dep' = deeper_by i h.0 InTurn (paces_round g x.name z.name) dep in
        let s = front_of (i ++ h.0 ∷ []) (paces_round g x.name z.name) dep' t in
        inl (
          h.0,
          loop_within g (i ++ h.0 ∷ []) e s,
          h.2,
          sides g (i ++ h.0 ∷ []) (left_together g (i ++ h.0 ∷ []) once e dep' t) once e s t h.3,
        )
    left_earlier (Until most g) i once e dep (inr h) =
        let t = within_starts g (i ++ h.0 ∷ []) x h.3 in
        let s = front_of (i ++ h.0 ∷ []) (paces_round g x.name z.name) (deeper_by i h.0 InTurn (paces_round g x.name z.name) dep) t in
        inr (h.0, h.1, h.2, loop_within g (i ++ h.0 ∷ []) e s, h.4)

    pub left_earlier_any : (bs : Branches) (i : List ℕ) → OnceAny bs → left_any bs x.name z.name ≡ l ∷ ls
        → Depth (paces_any bs x.name z.name) i → earlier_any low bs i x z → earlier_any low bs i Loop z
    left_earlier_any no_branch i once e dep h = absurd h
    left_earlier_any (branch b rest) i once e dep (inl h) =
        let bx = within_has b i x h.0 in
        let bz = within_has b i z h.1 in
        let t = within_starts b i x h.0 in
        let e' = sym (when (has b x.name) (cond (has b z.name) (left_round b x.name z.name) (loops_of b x.name))
        (left_any rest x.name z.name) bx
        ∙ when (has b z.name) (left_round b x.name z.name) (loops_of b x.name) bz) ∙ e in
        let dep' = subst (λ (ps : List Pace). Depth ps i)
        (when (has b x.name && has b z.name) (paces_round b x.name z.name) (paces_any rest x.name z.name)
        (and_of (has b x.name) (has b z.name) bx bz)) dep in
        let s = front_of i (paces_round b x.name z.name) dep' t in
        inl (loop_within b i e' s, h.1, sides b i (left_together b i once.1 e' dep' t) once.1 e' s t h.2)
    left_earlier_any (branch b rest) i once e dep (inr h) = elim (two (has b x.name)) [
      | inl t ↦ absurd (true≢false (sym (earlier_has_any low rest i x z h).0 ∙ once.0 x.name t))
      | inr f ↦ inr (left_earlier_any rest i once.2
          (sym (unless (has b x.name) (cond (has b z.name) (left_round b x.name z.name) (loops_of b x.name))
          (left_any rest x.name z.name) f) ∙ e)
          (subst (λ (ps : List Pace). Depth ps i)
          (unless (has b x.name && has b z.name) (paces_round b x.name z.name) (paces_any rest x.name z.name)
          (ap (λ (c : Bool). c && has b z.name) f)) dep)
          h)
    ]

    pub left_together : (g : Graph) (i : List ℕ) → Once g → left_round g x.name z.name ≡ l ∷ ls → Depth (paces_round g x.name z.name) i
        → starts i x.at ≡ true → together low g i x z → together low g i Loop z
    left_together done i once e dep t h = absurd h
    left_together (add n after kind rest) i once e dep t (inl h) = elim (two (holds kind x.name)) [
      | inl hx ↦
          let hz = (earlier_has low kind i x z h.2).1 in
          let e' = sym (when (holds kind x.name) (cond (holds kind z.name) (left_in kind x.name z.name) (loops_in n kind x.name))
          (left_round rest x.name z.name) hx
          ∙ when (holds kind z.name) (left_in kind x.name z.name) (loops_in n kind x.name) hz) ∙ e in
          let dep' = subst (λ (ps : List Pace). Depth ps i)
          (when (holds kind x.name && holds kind z.name) (paces_in kind x.name z.name) (paces_round rest x.name z.name)
          (and_of (holds kind x.name) (holds kind z.name) hx hz)) dep in
          inl (
            h.0,
            and_of (nat_eq n l || holds kind l) (starts i a) (or_second (nat_eq n l) (holds kind l)
                (left_has_in kind x.name z.name l ls e'))
                (front_of i (paces_in kind x.name z.name) dep' t),
            left_earlier kind i once.2 e' dep' h.2,
          )
      | inr f ↦ absurd (true≢false (sym (earlier_has low kind i x z h.2).0 ∙ f))
    ]
    left_together (add n after kind rest) i once e dep t (inr h) = elim (two (holds kind x.name)) [
      | inl hx ↦ absurd (true≢false (sym (together_has low rest i x z h.1) ∙ once.1 x.name
          (or_second (nat_eq n x.name) (holds kind x.name) hx)))
      | inr f ↦ inr (
        h.0,
        left_together rest i once.3
            (sym (unless (holds kind x.name) (cond (holds kind z.name) (left_in kind x.name z.name) (loops_in n kind x.name))
            (left_round rest x.name z.name) f) ∙ e)
            (subst (λ (ps : List Pace). Depth ps i)
            (unless (holds kind x.name && holds kind z.name) (paces_in kind x.name z.name) (paces_round rest x.name z.name)
            (ap (λ (c : Bool). c && holds kind z.name) f)) dep)
            t h.1,
      )
    ]

-- THE LAW
pub left_seen : (g : Graph) → Once g → (x z : Address) (l : ℕ) (ls a : List ℕ) → left_round g x.name z.name ≡ l ∷ ls
    → length a ≡ length (paces_round g x.name z.name) → starts a x.at ≡ true → SeenIn g z x → SeenIn g z (address l a)
left_seen g once x z l ls a e dep sx seen = (
  and_of (has g l) true (left_has g x.name z.name l ls e).1 refl,
  sides (IsBefore g) x z l ls a sx g []
      (left_together (IsBefore g) x z l ls a sx g [] once e (omega (arith, dep)) refl) once e refl refl seen.1,
)
