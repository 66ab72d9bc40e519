-- What is before an action is seen by it, where the indexes of the loops round both are the same; and what a container sees is seen by what
-- stands inside it.
use Rattle.std.proofs.Common.{◌≡◌, ℕ, suc, Bool, true, false, ◌&&◌, ◌||◌, cond, List, [], ◌∷◌, ◌++◌, length, Option, Some, ◌⊎◌, inl, inr}
use Rattle.std.proofs.Common.{refl, sym, ap, subst, ◌∙◌, append_assoc, arith, nat_eq}
use Rattle.std.proofs.lemmas.Bool.{eq-eqb, eqb-true}
use Rattle.wf_def.specs.Definition.{Need, Names, Kind, Leaf, Scope, Choice, Foreach, Until, Branches, no_branch, branch, Graph, done}
use Rattle.wf_def.specs.Definition.{add, holds, has, has_any, has_own, needs_in, needs_any, needs_of, IsBefore, next, more, Closed}
use Rattle.wf_def.specs.Definition.{ClosedIn, ClosedAny}
use Rattle.wf_def.specs.Address.{Address, starts, is_in, is_within, owner, Lower, earlier_in, earlier_any, together, IsEarlier, SeenIn}
use Rattle.wf_def.specs.Seen.{Once, OnceIn, OnceAny}
use Rattle.wf_def.proofs.Basics.{and_in, and_of}
use Rattle.wf_paths.proofs.PathLemmas.{or_left, or_right, or_split}
use Rattle.wf_order.specs.Indexes.{HaveSameIndexes, loops_any, loops_in, loops_round}
use Rattle.wf_order.specs.Order.{Among, Before, around, around_any, around_in, up}
use Rattle.wf_order.proofs.OrderLaws.{around-branch, around-branches, around-head, around-inner, around-rest, at_first, behind_first}
use Rattle.wf_order.proofs.OrderLaws.{branch_passed, clash, first_passed, in_first, kind_passed, moved, not_first, renamed, stands, two}
use Rattle.wf_order.proofs.RelationLemmas.{among-append, around_has, branch_has, kind_has, own_has}

-- ---- actions of one graph

abbrev Own : Graph → ℕ → ℕ → Type 0
Own g p a = (has_own g p ≡ true) × (has_own g a ≡ true)

-- two actions of one graph that stands somewhere inside
abbrev mutual
  SideIn : Kind → ℕ → ℕ → Type 0
  SideIn Leaf p a = ⊥
  SideIn (Scope g) p a = Own g p a ⊎ Side g p a
  SideIn (Choice bs) p a = SideAny bs p a
  SideIn (Foreach pace g) p a = Own g p a ⊎ Side g p a
  SideIn (Until most g) p a = Own g p a ⊎ Side g p a

  SideAny : Branches → ℕ → ℕ → Type 0
  SideAny no_branch p a = ⊥
  SideAny (branch b rest) p a = (Own b p a ⊎ Side b p a) ⊎ SideAny rest p a

  Side : Graph → ℕ → ℕ → Type 0
  Side done p a = ⊥
  Side (add n after kind rest) p a = SideIn kind p a ⊎ Side rest p a

-- or of the graph itself
abbrev Level : Graph → ℕ → ℕ → Type 0
Level g p a = Own g p a ⊎ Side g p a

level_has : (g : Graph) (p a : ℕ) → (Side g p a → (has g p ≡ true) × (has g a ≡ true)) → Level g p a → (has g p ≡ true) × (has g a ≡ true)
level_has g p a of_side (inl own) = (own_has g p own.0, own_has g a own.1)
level_has g p a of_side (inr side) = of_side side

mutual
  side_has : (g : Graph) (p a : ℕ) → Side g p a → (has g p ≡ true) × (has g a ≡ true)
  side_has done p a side = elim side [ ]
  side_has (add n after kind rest) p a (inl side) =
      let both = kind_side_has kind p a side in (
        or_left (nat_eq n p || holds kind p) (has rest p) (or_right (nat_eq n p) (holds kind p) both.0),
        or_left (nat_eq n a || holds kind a) (has rest a) (or_right (nat_eq n a) (holds kind a) both.1),
      )
  side_has (add n after kind rest) p a (inr side) =
      let both = side_has rest p a side in
      (or_right (nat_eq n p || holds kind p) (has rest p) both.0, or_right (nat_eq n a || holds kind a) (has rest a) both.1)

  kind_side_has : (kind : Kind) (p a : ℕ) → SideIn kind p a → (holds kind p ≡ true) × (holds kind a ≡ true)
  kind_side_has Leaf p a side = elim side [ ]
  kind_side_has (Scope g) p a side = level_has g p a (side_has g p a) side
  kind_side_has (Choice bs) p a side = any_side_has bs p a side
  kind_side_has (Foreach pace g) p a side = level_has g p a (side_has g p a) side
  kind_side_has (Until most g) p a side = level_has g p a (side_has g p a) side

  any_side_has : (bs : Branches) (p a : ℕ) → SideAny bs p a → (has_any bs p ≡ true) × (has_any bs a ≡ true)
  any_side_has no_branch p a side = elim side [ ]
  any_side_has (branch b rest) p a (inl level) =
      let both = level_has b p a (side_has b p a) level in (
        or_left (has b p) (has_any rest p) both.0,
        or_left (has b a)
            (has_any rest a) both.1,
      )
  any_side_has (branch b rest) p a (inr side) =
      let both = any_side_has rest p a side in (or_right (has b p) (has_any rest p) both.0, or_right (has b a) (has_any rest a) both.1)

-- an action inside one of the graph is none of the graph itself
abbrev Deep : Graph → ℕ → Type 0
Deep done q = ⊥
Deep (add n after kind rest) q = (holds kind q ≡ true) ⊎ Deep rest q

deep_has : (g : Graph) (q : ℕ) → Deep g q → has g q ≡ true
deep_has done q deep = elim deep [ ]
deep_has (add n after kind rest) q (inl held) = or_left (nat_eq n q || holds kind q) (has rest q)
    (or_right (nat_eq n q) (holds kind q) held)
deep_has (add n after kind rest) q (inr deep) = or_right (nat_eq n q || holds kind q) (has rest q) (deep_has rest q deep)

side_deep : (g : Graph) (p a : ℕ) → Side g p a → Deep g p × Deep g a
side_deep done p a side = elim side [ ]
side_deep (add n after kind rest) p a (inl side) = let both = kind_side_has kind p a side in (inl both.0, inl both.1)
side_deep (add n after kind rest) p a (inr side) = let both = side_deep rest p a side in (inr both.0, inr both.1)

own_not_deep : (g : Graph) → Once g → (q : ℕ) → has_own g q ≡ true → Deep g q → ⊥
own_not_deep done once q own deep = elim deep [ ]
own_not_deep (add n after kind rest) once q own (inl held) = elim (or_split (nat_eq n q) (has_own rest q) own) [
  | inl is ↦ clash (nat_eq n q) is (not_first n q kind once.0 held)
  | inr later ↦ clash (holds kind q) held (kind_passed n q kind rest once.1 (own_has rest q later))
]
own_not_deep (add n after kind rest) once q own (inr deep) = elim (or_split (nat_eq n q) (has_own rest q) own) [
  | inl is ↦ clash (nat_eq n q) is (first_passed n q kind rest once.1 (deep_has rest q deep))
  | inr later ↦ own_not_deep rest once.3 q later deep
]

-- it goes along

level_joined : (g : Graph) → Once g → (p q a : ℕ) → (Side g p q → Side g q a → Side g p a) → Level g p q → Level g q a → Level g p a
level_joined g once p q a of_side (inl one) (inl other) = inl (one.0, other.1)
level_joined g once p q a of_side (inl one) (inr other) = absurd (own_not_deep g once q one.1 (side_deep g q a other).0)
level_joined g once p q a of_side (inr one) (inl other) = absurd (own_not_deep g once q other.0 (side_deep g p q one).1)
level_joined g once p q a of_side (inr one) (inr other) = inr (of_side one other)

mutual
  side_joined : (g : Graph) → Once g → (p q a : ℕ) → Side g p q → Side g q a → Side g p a
  side_joined done once p q a one other = elim one [ ]
  side_joined (add n after kind rest) once p q a (inl one) (inl other) = inl (kind_joined kind once.2 p q a one other)
  side_joined (add n after kind rest) once p q a (inl one) (inr other) =
      absurd (clash (holds kind q) (kind_side_has kind p q one).1 (kind_passed n q kind rest once.1 (side_has rest q a other).0))
  side_joined (add n after kind rest) once p q a (inr one) (inl other) =
      absurd (clash (holds kind q) (kind_side_has kind q a other).0 (kind_passed n q kind rest once.1 (side_has rest p q one).1))
  side_joined (add n after kind rest) once p q a (inr one) (inr other) = inr (side_joined rest once.3 p q a one other)

  kind_joined : (kind : Kind) → OnceIn kind → (p q a : ℕ) → SideIn kind p q → SideIn kind q a → SideIn kind p a
  kind_joined Leaf once p q a one other = elim one [ ]
  kind_joined (Scope g) once p q a one other = level_joined g once p q a (side_joined g once p q a) one other
  kind_joined (Choice bs) once p q a one other = any_joined bs once p q a one other
  kind_joined (Foreach pace g) once p q a one other = level_joined g once p q a (side_joined g once p q a) one other
  kind_joined (Until most g) once p q a one other = level_joined g once p q a (side_joined g once p q a) one other

  any_joined : (bs : Branches) → OnceAny bs → (p q a : ℕ) → SideAny bs p q → SideAny bs q a → SideAny bs p a
  any_joined no_branch once p q a one other = elim one [ ]
  any_joined (branch b rest) once p q a (inl one) (inl other) = inl (level_joined b once.1 p q a (side_joined b once.1 p q a) one other)
  any_joined (branch b rest) once p q a (inl one) (inr other) =
      absurd (clash (has b q) (level_has b p q (side_has b p q) one).1 (branch_passed b rest q once.0 (any_side_has rest q a other).0))
  any_joined (branch b rest) once p q a (inr one) (inl other) =
      absurd (clash (has b q) (level_has b q a (side_has b q a) other).0 (branch_passed b rest q once.0 (any_side_has rest p q one).1))
  any_joined (branch b rest) once p q a (inr one) (inr other) = inr (any_joined rest once.2 p q a one other)

-- what is waited for stands in the graph of what waits
mutual
  needs_side : (g w : Graph) → Closed g w → (a p : ℕ) → Names (needs_of g a) p → ((has_own w p ≡ true) × (has_own g a ≡ true)) ⊎ Side g p a
  needs_side done w closed a p named = elim named [ ]
  needs_side (add n after kind rest) w closed a p named =
      let g = add n after kind rest in
      elim (stands n kind rest a) [
        | at_first is ↦ inl (
          closed.0 p (renamed (needs_of g a) after p (ap
              (λ (b : Bool). cond b after (cond (holds kind a) (needs_in kind a) (needs_of rest a))) is) named),
          or_left (nat_eq n a) (has_own rest a) is,
        )
        | in_first other held ↦
            let inner = ap (λ (b : Bool). cond b after (cond (holds kind a) (needs_in kind a) (needs_of rest a))) other
            ∙ ap (λ (b : Bool). cond b (needs_in kind a) (needs_of rest a)) held in
            inr (inl (kind_needs_side kind closed.1 a p (renamed (needs_of g a) (needs_in kind a) p inner named)))
        | behind_first other out ↦
            let later = ap (λ (b : Bool). cond b after (cond (holds kind a) (needs_in kind a) (needs_of rest a))) other
            ∙ ap (λ (b : Bool). cond b (needs_in kind a) (needs_of rest a)) out in
            elim (needs_side rest w closed.2 a p (renamed (needs_of g a) (needs_of rest a) p later named)) [
              | inl own ↦ inl (own.0, or_right (nat_eq n a) (has_own rest a) own.1)
              | inr side ↦ inr (inr side)
            ]
      ]

  kind_needs_side : (kind : Kind) → ClosedIn kind → (a p : ℕ) → Names (needs_in kind a) p → SideIn kind p a
  kind_needs_side Leaf closed a p named = elim named [ ]
  kind_needs_side (Scope g) closed a p named = needs_side g g closed a p named
  kind_needs_side (Choice bs) closed a p named = any_needs_side bs closed a p named
  kind_needs_side (Foreach pace g) closed a p named = needs_side g g closed a p named
  kind_needs_side (Until most g) closed a p named = needs_side g g closed a p named

  any_needs_side : (bs : Branches) → ClosedAny bs → (a p : ℕ) → Names (needs_any bs a) p → SideAny bs p a
  any_needs_side no_branch closed a p named = elim named [ ]
  any_needs_side (branch b rest) closed a p named = elim (two (has b a)) [
    | inl held ↦
        let here = ap (λ (h : Bool). cond h (needs_of b a) (needs_any rest a)) held in
        inl (needs_side b b closed.0 a p (renamed (needs_any (branch b rest) a) (needs_of b a) p here named))
    | inr out ↦
        let later = ap (λ (h : Bool). cond h (needs_of b a) (needs_any rest a)) out in
        inr (any_needs_side rest closed.1 a p (renamed (needs_any (branch b rest) a) (needs_any rest a) p later named))
  ]

ancestor_level : (g : Graph) → Once g → Closed g g → (p a : ℕ) → IsBefore g p a → Level g p a
ancestor_level g once closed p a (next h) = needs_side g g closed a p h
ancestor_level g once closed p a (more {q = q} f h) =
    level_joined g once p q a (side_joined g once p q a) (ancestor_level g once closed p q f) (needs_side g g closed a q h)

-- ---- where an action stands whose container, or that itself, is known

abbrev pub up_in : Kind → ℕ → List ℕ
up_in kind x = around_in kind x ++ x ∷ []

pub last_or : (xs : List ℕ) (x c : ℕ) → Among (xs ++ x ∷ []) c → Among xs c ⊎ (x ≡ c)
last_or xs x c among = elim (among-append xs (x ∷ []) c among) [
  | inl first ↦ inl first
  | inr last ↦ elim last [ inl is ↦ inr is | inr none ↦ elim none [ ] ]
]

-- inside the first action
pub inner_up : (n : ℕ) (after : List Need) (kind : Kind) (rest : Graph) → Once (add n after kind rest) → (x c : ℕ)
    → Among (up (add n after kind rest) x) c
    → holds kind c ≡ true → (holds kind x ≡ true) × Among (up_in kind x) c
inner_up n after kind rest once x c among held = elim (stands n kind rest x) [
  | at_first is ↦ elim (moved (up (add n after kind rest) x) (x ∷ []) c
      (ap (λ (xs : List ℕ). xs ++ x ∷ []) (around-head n after kind rest x is)) among) [
        | inl x_is ↦ absurd (clash (holds kind c) held (subst (λ (k : ℕ). holds kind k ≡ false) (eqb-true n x is ∙ x_is) once.0))
        | inr none ↦ elim none [ ]
      ]
  | in_first other in_x ↦
      elim (moved (up (add n after kind rest) x) (n ∷ up_in kind x) c
      (ap (λ (xs : List ℕ). xs ++ x ∷ []) (around-inner n after kind rest x other in_x)) among) [
        | inl n_is ↦ absurd (clash (holds kind c) held (subst (λ (k : ℕ). holds kind k ≡ false) n_is once.0))
        | inr inside' ↦ (in_x, inside')
      ]
  | behind_first other out ↦
      elim (last_or (around rest x) x c (moved (up (add n after kind rest) x) (up rest x) c
      (ap (λ (xs : List ℕ). xs ++ x ∷ []) (around-rest n after kind rest x other out)) among)) [
        | inl there ↦ absurd (clash (holds kind c) held (kind_passed n c kind rest once.1 (around_has rest x c there)))
        | inr x_is ↦ absurd (clash (holds kind c) held (subst (λ (k : ℕ). holds kind k ≡ false) x_is out))
      ]
]

-- or behind it
pub record Behind (n : ℕ) (kind : Kind) (rest : Graph) (x c : ℕ) : Type 0 where
  pub other : nat_eq n x ≡ false
  pub out : holds kind x ≡ false
  pub among : Among (up rest x) c

pub rest_up : (n : ℕ) (after : List Need) (kind : Kind) (rest : Graph) → Once (add n after kind rest) → (x c : ℕ)
    → Among (up (add n after kind rest) x) c
    → has rest c ≡ true → Behind n kind rest x c
rest_up n after kind rest once x c among there = elim (stands n kind rest x) [
  | at_first is ↦ elim (moved (up (add n after kind rest) x) (x ∷ []) c
      (ap (λ (xs : List ℕ). xs ++ x ∷ []) (around-head n after kind rest x is)) among) [
        | inl x_is ↦ absurd (clash (nat_eq n c) (eq-eqb n c (eqb-true n x is ∙ x_is)) (first_passed n c kind rest once.1 there))
        | inr none ↦ elim none [ ]
      ]
  | in_first other in_x ↦
      elim (moved (up (add n after kind rest) x) (n ∷ up_in kind x) c
      (ap (λ (xs : List ℕ). xs ++ x ∷ []) (around-inner n after kind rest x other in_x)) among) [
        | inl n_is ↦ absurd (clash (nat_eq n c) (eq-eqb n c n_is) (first_passed n c kind rest once.1 there))
        | inr inside' ↦ elim (last_or (around_in kind x) x c inside') [
          | inl deeper ↦ absurd (clash (holds kind c) (kind_has kind x c deeper) (kind_passed n c kind rest once.1 there))
          | inr x_is ↦ absurd (clash (holds kind c) (subst (λ (k : ℕ). holds kind k ≡ true) x_is in_x)
              (kind_passed n c kind rest once.1 there))
        ]
      ]
  | behind_first other out ↦ record {
    other = other;
    out = out;
    among = moved (up (add n after kind rest) x) (up rest x) c
        (ap (λ (xs : List ℕ). xs ++ x ∷ []) (around-rest n after kind rest x other out)) among;
  }
]

-- in the first branch, or in a later one
abbrev pub up_any : Branches → ℕ → List ℕ
up_any bs x = around_any bs x ++ x ∷ []

pub branch_up : (b : Graph) (rest : Branches) → OnceAny (branch b rest) → (x c : ℕ) → Among (up_any (branch b rest) x) c → has b c ≡ true
    → (has b x ≡ true) × Among (up b x) c
branch_up b rest once x c among held = elim (two (has b x)) [
  | inl in_x ↦ (in_x, moved (up_any (branch b rest) x) (up b x) c (ap (λ (xs : List ℕ). xs ++ x ∷ []) (around-branch b rest x in_x)) among)
  | inr out ↦
      elim (last_or (around_any rest x) x c (moved (up_any (branch b rest) x) (up_any rest x) c
      (ap (λ (xs : List ℕ). xs ++ x ∷ []) (around-branches b rest x out)) among)) [
        | inl there ↦ absurd (clash (has b c) held (branch_passed b rest c once.0 (branch_has rest x c there)))
        | inr x_is ↦ absurd (clash (has b c) held (subst (λ (k : ℕ). has b k ≡ false) x_is out))
      ]
]

pub branches_up : (b : Graph) (rest : Branches) → OnceAny (branch b rest) → (x c : ℕ) → Among (up_any (branch b rest) x) c → has_any rest c
    ≡ true
    → (has b x ≡ false) × Among (up_any rest x) c
branches_up b rest once x c among there = elim (two (has b x)) [
  | inl in_x ↦
      elim (last_or (around b x) x c (moved (up_any (branch b rest) x) (up b x) c
      (ap (λ (xs : List ℕ). xs ++ x ∷ []) (around-branch b rest x in_x)) among)) [
        | inl inside' ↦ absurd (clash (has b c) (around_has b x c inside') (branch_passed b rest c once.0 there))
        | inr x_is ↦ absurd (clash (has b c) (subst (λ (k : ℕ). has b k ≡ true) x_is in_x) (branch_passed b rest c once.0 there))
      ]
  | inr out ↦ (
    out,
    moved (up_any (branch b rest) x) (up_any rest x) c
        (ap (λ (xs : List ℕ). xs ++ x ∷ []) (around-branches b rest x out)) among,
  )
]

-- ---- tests of addresses

pub in_own : (n : ℕ) (kind : Kind) (i : List ℕ) (x : Address) → nat_eq n x.name ≡ true → starts i x.at ≡ true → is_in n kind i x ≡ true
in_own n kind i x is begins = and_of (nat_eq n x.name || holds kind x.name) (starts i x.at)
    (or_left (nat_eq n x.name) (holds kind x.name) is) begins

pub in_held : (n : ℕ) (kind : Kind) (i : List ℕ) (x : Address) → holds kind x.name ≡ true → starts i x.at ≡ true → is_in n kind i x ≡ true
in_held n kind i x held begins = and_of (nat_eq n x.name || holds kind x.name) (starts i x.at)
    (or_right (nat_eq n x.name) (holds kind x.name) held) begins

pub not_in : (n : ℕ) (kind : Kind) (i : List ℕ) (x : Address) → nat_eq n x.name ≡ false → holds kind x.name ≡ false → is_in n kind i x
    ≡ false
not_in n kind i x other out =
    ap (λ (b : Bool). (b || holds kind x.name) && starts i x.at) other ∙ ap (λ (b : Bool). b && starts i x.at) out

-- the action of the graph that is known is the owner
owned : (g : Graph) → Once g → (i : List ℕ) (x : Address) (c : ℕ) → has_own g c ≡ true → Among (up g x.name) c → starts i x.at ≡ true
    → owner g i x ≡ Some c
owned done once i x c own among begins = absurd (cc)
owned (add n after kind rest) once i x c own among begins = elim (or_split (nat_eq n c) (has_own rest c) own) [
  | inl is ↦
      let n_is : n ≡ c = eqb-true n c is in
      elim (stands n kind rest x.name) [
        | at_first here ↦ ap (λ (b : Bool). cond b (Some n) (owner rest i x)) (in_own n kind i x here begins) ∙ ap Some n_is
        | in_first other held ↦ ap (λ (b : Bool). cond b (Some n) (owner rest i x)) (in_held n kind i x held begins) ∙ ap Some n_is
        | behind_first other out ↦
            elim (last_or (around rest x.name) x.name c (moved (up (add n after kind rest) x.name) (up rest x.name) c
            (ap (λ (xs : List ℕ). xs ++ x.name ∷ []) (around-rest n after kind rest x.name other out)) among)) [
              | inl there ↦ absurd (clash (nat_eq n c) is (first_passed n c kind rest once.1 (around_has rest x.name c there)))
              | inr x_is ↦ absurd (clash (nat_eq n c) is (subst (λ (k : ℕ). nat_eq n k ≡ false) x_is other))
            ]
      ]
  | inr later ↦
      let behind' = rest_up n after kind rest once x.name c among (own_has rest c later) in
      ap (λ (b : Bool). cond b (Some n) (owner rest i x)) (not_in n kind i x behind'.other behind'.out)
      ∙ owned rest once.3 i x c later behind'.among begins
]

pub starts_front : (i k at : List ℕ) → starts (i ++ k) at ≡ true → starts i at ≡ true
starts_front [] k at is = refl
starts_front (a ∷ i) k [] is = is
starts_front (a ∷ i) k (b ∷ at) is =
    let h = and_in (nat_eq a b) (starts (i ++ k) at) is in and_of (nat_eq a b) (starts i at) h.0 (starts_front i k at h.1)

pub starts_more : (i j k at : List ℕ) → starts (i ++ (j ++ k)) at ≡ true → starts ((i ++ j) ++ k) at ≡ true
starts_more i j k at is = subst (λ (xs : List ℕ). starts xs at ≡ true) (sym (append_assoc i j k)) is

pub within : (g : Graph) (i : List ℕ) (x : Address) → has g x.name ≡ true → starts i x.at ≡ true → is_within g i x ≡ true
within g i x there begins = and_of (has g x.name) (starts i x.at) there begins

-- ---- what is before is earlier

pub loops-inner : (n : ℕ) (after : List Need) (kind : Kind) (rest : Graph) (x y : ℕ) → holds kind x ≡ true → holds kind y ≡ true
    → loops_round (add n after kind rest) x y ≡ loops_in kind x y
loops-inner n after kind rest x y one other =
    ap (λ (b : Bool). cond b (loops_in kind x y) (loops_round rest x y)) (and_of (holds kind x) (holds kind y) one other)

pub loops-rest : (n : ℕ) (after : List Need) (kind : Kind) (rest : Graph) (x y : ℕ) → holds kind x ≡ false
    → loops_round (add n after kind rest) x y ≡ loops_round rest x y
loops-rest n after kind rest x y out = ap (λ (b : Bool). cond (b && holds kind y) (loops_in kind x y) (loops_round rest x y)) out

pub loops-branch : (b : Graph) (rest : Branches) (x y : ℕ) → has b x ≡ true → has b y ≡ true
    → loops_any (branch b rest) x y ≡ loops_round b x y
loops-branch b rest x y one other = ap (λ (c : Bool). cond c (loops_round b x y) (loops_any rest x y))
    (and_of (has b x) (has b y) one other)

pub loops-branches : (b : Graph) (rest : Branches) (x y : ℕ) → has b x ≡ false → loops_any (branch b rest) x y ≡ loops_any rest x y
loops-branches b rest x y out = ap (λ (c : Bool). cond (c && has b y) (loops_round b x y) (loops_any rest x y)) out

module _ (low : ℕ → ℕ → Type 0) (x y : Address) (one other : ℕ) (is : low one other) where
  -- the indexes so far, and those of the loops that are round both
  record Begins (i k : List ℕ) : Type 0 where
    of_one : starts (i ++ k) x.at ≡ true
    of_other : starts (i ++ k) y.at ≡ true

  stepped : (i k : List ℕ) (j : ℕ) → Begins i (j ∷ k) → Begins (i ++ j ∷ []) k
  stepped i k j begins = record {
    of_one = starts_more i (j ∷ []) k x.at begins.of_one;
    of_other = starts_more i
        (j ∷ []) k y.at begins.of_other;
  }

  lower : (g : Graph) (i : List ℕ) → owner g i x ≡ Some one → owner g i y ≡ Some other → Lower low (owner g i x) (owner g i y)
  lower g i of_one of_other = subst (λ (o : Option ℕ). Lower low o (owner g i y)) (sym of_one)
      (subst (λ (o : Option ℕ). Lower low (Some one) o) (sym of_other) is)

  level_earlier : (g : Graph) → Once g → (i k : List ℕ) → Among (up g x.name) one → Among (up g y.name) other → Begins i k
      → (Side g one other → together low g i x y) → Level g one other → IsEarlier low g i x y
  level_earlier g once i k one_up other_up begins of_side (inl own) = inl (lower g i
      (owned g once i x one own.0 one_up (starts_front i k x.at begins.of_one))
      (owned g once i y other own.1 other_up (starts_front i k y.at begins.of_other)))
  level_earlier g once i k one_up other_up begins of_side (inr side) = inr (of_side side)

  -- an iteration that both are in
  abbrev InTurn : Graph → List ℕ → Type 0
  InTurn g i = (j : ℕ) × (is_within g (i ++ j ∷ []) x ≡ true) × (is_within g (i ++ j ∷ []) y ≡ true)
      × (Lower low (owner g (i ++ j ∷ []) x) (owner g (i ++ j ∷ []) y) ⊎ together low g (i ++ j ∷ []) x y)

  turn : (g : Graph) → Once g → (i k : List ℕ) → has g x.name ≡ true → has g y.name ≡ true → Among (up g x.name) one
      → Among (up g y.name) other
      → length k ≡ suc (loops_round g x.name y.name) → Begins i k
      → ((j : ℕ) (k' : List ℕ) → length k' ≡ loops_round g x.name y.name → Begins (i ++ j ∷ []) k' → Side g one other
      → together low g (i ++ j ∷ []) x y)
      → Level g one other → InTurn g i
  turn g once i [] in_x in_y one_up other_up count begins of_side level = absurd (omega (arith, count))
  turn g once i (j ∷ k) in_x in_y one_up other_up count begins of_side level =
      let deeper = stepped i k j begins in (
        j,
        within g (i ++ j ∷ []) x in_x (starts_front (i ++ j ∷ []) k x.at deeper.of_one),
        within g (i ++ j ∷ []) y in_y (starts_front (i ++ j ∷ []) k y.at deeper.of_other),
        level_earlier g once (i ++ j ∷ []) k one_up other_up deeper (of_side j k (omega (arith, count)) deeper) level,
      )

  mutual
    side_earlier : (g : Graph) → Once g → (i k : List ℕ) → Side g one other → Among (up g x.name) one → Among (up g y.name) other
        → length k ≡ loops_round g x.name y.name → Begins i k → together low g i x y
    side_earlier done once i k side one_up other_up count begins = elim side [ ]
    side_earlier (add n after kind rest) once i k (inl side) one_up other_up count begins =
        let both = kind_side_has kind one other side in
        let of_x = inner_up n after kind rest once x.name one one_up both.0 in
        let of_y = inner_up n after kind rest once y.name other other_up both.1 in
        inl (
          in_held n kind i y of_y.0 (starts_front i k y.at begins.of_other),
          in_held n kind i x of_x.0 (starts_front i k x.at begins.of_one),
          kind_earlier kind once.2 i k side of_x.0 of_y.0 of_x.1 of_y.1
              (count ∙ loops-inner n after kind rest x.name y.name of_x.0 of_y.0) begins,
        )
    side_earlier (add n after kind rest) once i k (inr side) one_up other_up count begins =
        let both = side_has rest one other side in
        let of_x = rest_up n after kind rest once x.name one one_up both.0 in
        let of_y = rest_up n after kind rest once y.name other other_up both.1 in
        inr (
          not_in n kind i y of_y.other of_y.out,
          side_earlier rest once.3 i k side of_x.among of_y.among (count ∙ loops-rest n after kind rest x.name y.name of_x.out) begins,
        )

    kind_earlier : (kind : Kind) → OnceIn kind → (i k : List ℕ) → SideIn kind one other → holds kind x.name ≡ true → holds kind y.name
        ≡ true
        → Among (up_in kind x.name) one → Among (up_in kind y.name) other → length k ≡ loops_in kind x.name y.name → Begins i k
        → earlier_in low kind i x y
    kind_earlier Leaf once i k side in_x in_y one_up other_up count begins = elim side [ ]
    kind_earlier (Scope g) once i k side in_x in_y one_up other_up count begins = (
      within g i x in_x (starts_front i k x.at begins.of_one),
      within g i y in_y (starts_front i k y.at begins.of_other),
      level_earlier g once i k one_up other_up begins (λ inner. side_earlier g once i k inner one_up other_up count begins) side,
    )
    kind_earlier
        (Choice bs) once i k side in_x in_y one_up other_up count begins = any_earlier bs once i k side one_up other_up count begins
    kind_earlier (Foreach pace g) once i k side in_x in_y one_up other_up count begins =
        inl (turn g once i k in_x in_y one_up other_up count begins
        (λ j k' same deeper inner. side_earlier g once (i ++ j ∷ []) k' inner one_up other_up same deeper) side)
    kind_earlier (Until most g) once i k side in_x in_y one_up other_up count begins =
        inl (turn g once i k in_x in_y one_up other_up count begins
        (λ j k' same deeper inner. side_earlier g once (i ++ j ∷ []) k' inner one_up other_up same deeper) side)

    any_earlier : (bs : Branches) → OnceAny bs → (i k : List ℕ) → SideAny bs one other → Among (up_any bs x.name) one
        → Among (up_any bs y.name) other
        → length k ≡ loops_any bs x.name y.name → Begins i k → earlier_any low bs i x y
    any_earlier no_branch once i k side one_up other_up count begins = elim side [ ]
    any_earlier (branch b rest) once i k (inl level) one_up other_up count begins =
        let both = level_has b one other (side_has b one other) level in
        let of_x = branch_up b rest once x.name one one_up both.0 in
        let of_y = branch_up b rest once y.name other other_up both.1 in
        inl (
          within b i x of_x.0 (starts_front i k x.at begins.of_one),
          within b i y of_y.0 (starts_front i k y.at begins.of_other),
          level_earlier b once.1 i k of_x.1 of_y.1 begins
              (λ inner. side_earlier b once.1 i k inner of_x.1 of_y.1
              (count ∙ loops-branch b rest x.name y.name of_x.0 of_y.0) begins) level,
        )
    any_earlier (branch b rest) once i k (inr side) one_up other_up count begins =
        let both = any_side_has rest one other side in
        let of_x = branches_up b rest once x.name one one_up both.0 in
        let of_y = branches_up b rest once y.name other other_up both.1 in
        inr (any_earlier rest once.2 i k side of_x.1 of_y.1 (count ∙ loops-branches b rest x.name y.name of_x.0) begins)

-- what is in no graph has nothing round it
pub around_none : (g : Graph) (m c : ℕ) → Among (up g m) c → has g c ≡ true → has g m ≡ true
around_none done m c among there = absurd (cc)
around_none (add n after kind rest) m c among there = elim (stands n kind rest m) [
  | at_first is ↦ or_left (nat_eq n m || holds kind m) (has rest m) (or_left (nat_eq n m) (holds kind m) is)
  | in_first other held ↦ or_left (nat_eq n m || holds kind m) (has rest m) (or_right (nat_eq n m) (holds kind m) held)
  | behind_first other out ↦
      elim (last_or (around rest m) m c (moved (up (add n after kind rest) m) (up rest m) c
      (ap (λ (xs : List ℕ). xs ++ m ∷ []) (around-rest n after kind rest m other out)) among)) [
        | inl inside' ↦
            or_right (nat_eq n m || holds kind m) (has rest m)
            (around_none rest m c (moved (up (add n after kind rest) m) (up rest m) c
            (ap (λ (xs : List ℕ). xs ++ m ∷ []) (around-rest n after kind rest m other out)) among)
            (around_has rest m c inside'))
        | inr m_is ↦ subst (λ (k : ℕ). has (add n after kind rest) k ≡ true) (sym m_is) there
      ]
]

pub before_seen : (g : Graph) → Once g → Closed g g → (x y : Address) → Before g x.name y.name → HaveSameIndexes g x y → SeenIn g y x
before_seen g once closed x y b same =
    let level = ancestor_level g once closed b.one b.other b.ancestor in
    let both = level_has g b.one b.other (side_has g b.one b.other) level in
    let begins : Begins
    (IsBefore g) x y b.one b.other b.ancestor [] same.indexes = record { of_one = same.of_one; of_other = same.of_other } in (
      within g [] x (around_none g x.name b.one b.one_up both.0) refl,
      level_earlier (IsBefore g) x y b.one b.other b.ancestor g once [] same.indexes b.one_up b.other_up begins
          (λ side. side_earlier
          (IsBefore g) x y b.one b.other b.ancestor g once [] same.indexes side b.one_up b.other_up same.each_loop begins) level,
    )
