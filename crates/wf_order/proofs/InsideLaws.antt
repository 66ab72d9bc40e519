-- What a container sees is seen by what stands inside it.
use Rattle.std.proofs.Common.{◌≡◌, ℕ, Bool, true, false, cond, List, [], ◌∷◌, ◌++◌, Option, Some, ◌⊎◌, inl, inr, refl, sym, ap, subst, ◌∙◌, nat_eq}
use Rattle.std.proofs.lemmas.Bool.{eq-eqb, eqb-true}
use Rattle.wf_def.specs.Definition.{Need, Kind, Leaf, Scope, Choice, Foreach, Until, Branches, no_branch, branch, Graph, done, add, holds, has, has_any, IsBefore}
use Rattle.wf_def.specs.Address.{Address, starts, is_in, is_within, owner, Lower, earlier_in, earlier_any, together, IsEarlier, SeenIn}
use Rattle.wf_def.specs.Seen.{Once, OnceIn, OnceAny}
use Rattle.wf_def.proofs.Basics.{and_in, and_of}
use Rattle.wf_paths.proofs.PathLemmas.{or_left, or_right}
use Rattle.wf_order.specs.Order.{Among, Contains, around, around_any, around_in}
use Rattle.wf_order.proofs.OrderLaws.{around-branch, around-branches, around-head, around-inner, around-rest, at_first, behind_first, branch_passed, clash, first_passed, in_first, kind_passed, moved, stands, two}
use Rattle.wf_order.proofs.RelationLemmas.{around_has, branch_has, kind_has}
use Rattle.wf_order.proofs.SeenLaws.{in_held, in_own, not_in, within}

starts_on : (i at more : List ℕ) → starts i at ≡ true → starts at more ≡ true → starts i more ≡ true
starts_on [] at more one other = refl
starts_on (a ∷ i) [] more one other = absurd (cc)
starts_on (a ∷ i) (b ∷ at) [] one other = absurd (cc)
starts_on (a ∷ i) (b ∷ at) (c ∷ more) one other =
    let h = and_in (nat_eq a b) (starts i at) one in
    let k = and_in (nat_eq b c) (starts at more) other in
    and_of (nat_eq a c) (starts i more) (eq-eqb a c (eqb-true a b h.0 ∙ eqb-true b c k.0)) (starts_on i at more h.1 k.1)

module _ (low : ℕ → ℕ → Type 0) (c x z : Address) (goes : starts c.at x.at ≡ true) where
  -- where c and x stand, of which c contains x
  data Place (n : ℕ) (kind : Kind) (rest : Graph) : Type 0 where
    container : nat_eq n c.name ≡ true → holds kind x.name ≡ true → Place n kind rest
    inner : nat_eq n c.name ≡ false → holds kind c.name ≡ true → holds kind x.name ≡ true → Among (around_in kind x.name) c.name
        → Place n kind rest
    later : nat_eq n c.name ≡ false → holds kind c.name ≡ false → nat_eq n x.name ≡ false → holds kind x.name ≡ false
        → Among (around rest x.name) c.name
        → Place n kind rest

  place : (n : ℕ) (kind : Kind) (rest : Graph) (after : List Need) → Once (add n after kind rest)
      → Contains (add n after kind rest) c.name x.name
      → Place n kind rest
  place n kind rest after once inside' = elim (stands n kind rest x.name) [
    | at_first is ↦ elim (moved (around (add n after kind rest) x.name) [] c.name (around-head n after kind rest x.name is) inside') [ ]
    | in_first other held ↦ elim (two (nat_eq n c.name)) [
      | inl is ↦ container is held
      | inr not' ↦ elim (moved (around (add n after kind rest) x.name) (n ∷ around_in kind x.name) c.name
          (around-inner n after kind rest x.name other held) inside') [
            | inl is ↦ absurd (clash (nat_eq n c.name) (eq-eqb n c.name is) not')
            | inr deeper ↦ inner not' (kind_has kind x.name c.name deeper) held deeper
          ]
    ]
    | behind_first other out ↦
        let there = moved (around (add n after kind rest) x.name) (around rest x.name) c.name
        (around-rest n after kind rest x.name other out) inside' in
        let has_c = around_has rest x.name c.name there in
        later (first_passed n c.name kind rest once.1 has_c) (kind_passed n c.name kind rest once.1 has_c) other out there
  ]

  begins_x : (i : List ℕ) → starts i c.at ≡ true → starts i x.at ≡ true
  begins_x i begins = starts_on i c.at x.at begins goes

  -- both are in the same action of the graph
  same_owner : (g : Graph) → Once g → Contains g c.name x.name → (i : List ℕ) → starts i c.at ≡ true → owner g i c ≡ owner g i x
  same_owner done once inside' i begins = elim inside' [ ]
  same_owner (add n after kind rest) once inside' i begins = elim (place n kind rest after once inside') [
    | container is held ↦
        ap (λ (b : Bool). cond b (Some n) (owner rest i c)) (in_own n kind i c is begins)
        ∙ sym (ap (λ (b : Bool). cond b (Some n) (owner rest i x)) (in_held n kind i x held (begins_x i begins)))
    | inner other held_c held_x deeper ↦
        ap (λ (b : Bool). cond b (Some n) (owner rest i c)) (in_held n kind i c held_c begins)
        ∙ sym (ap (λ (b : Bool). cond b (Some n) (owner rest i x)) (in_held n kind i x held_x (begins_x i begins)))
    | later other out other_x out_x there ↦
        ap (λ (b : Bool). cond b (Some n) (owner rest i c)) (not_in n kind i c other out)
        ∙ same_owner rest once.3 there i begins
        ∙ sym (ap (λ (b : Bool). cond b (Some n) (owner rest i x)) (not_in n kind i x other_x out_x))
  ]

  -- x stands where c stands
  into : (g : Graph) (i : List ℕ) → (has g c.name ≡ true → has g x.name ≡ true) → is_within g i c ≡ true → (is_within g i x ≡ true)
      × (starts i c.at ≡ true)
  into g i holds_x w = let h = and_in (has g c.name) (starts i c.at) w in (within g i x (holds_x h.0) (begins_x i h.1), h.1)

  level_follows : (g : Graph) → Once g → Contains g c.name x.name → (i : List ℕ) → starts i c.at ≡ true
      → (together low g i z c → together low g i z x) → IsEarlier low g i z c → IsEarlier low g i z x
  level_follows g once inside' i begins of_together (inl lower) =
      inl (subst (λ (o : Option ℕ). Lower low (owner g i z) o) (same_owner g once inside' i begins) lower)
  level_follows g once inside' i begins of_together (inr both) = inr (of_together both)

  abbrev InTurn : Graph → List ℕ → Address → Type 0
  InTurn g i w = (j : ℕ) × (is_within g (i ++ j ∷ []) z ≡ true) × (is_within g (i ++ j ∷ []) w ≡ true)
      × (Lower low (owner g (i ++ j ∷ []) z) (owner g (i ++ j ∷ []) w) ⊎ together low g (i ++ j ∷ []) z w)

  turn_follows : (g : Graph) → Once g → has g x.name ≡ true → Contains g c.name x.name → (i : List ℕ)
      → ((j : ℕ) → starts (i ++ j ∷ []) c.at ≡ true → together low g (i ++ j ∷ []) z c → together low g (i ++ j ∷ []) z x)
      → InTurn g i c → InTurn g i x
  turn_follows g once in_x inside' i of_together turn =
      let w = into g (i ++ turn.0 ∷ []) (λ h. in_x) turn.2 in
      (turn.0, turn.1, w.0, level_follows g once inside' (i ++ turn.0 ∷ []) w.1 (of_together turn.0 w.1) turn.3)

  -- what stands where it has something earlier is inside
  any_held : (bs : Branches) (i : List ℕ) → earlier_any low bs i z c → has_any bs c.name ≡ true
  any_held no_branch i e = elim e [ ]
  any_held (branch b rest) i (inl e) = or_left (has b c.name) (has_any rest c.name) (and_in (has b c.name) (starts i c.at) e.1).0
  any_held (branch b rest) i (inr e) = or_right (has b c.name) (has_any rest c.name) (any_held rest i e)

  held_of : (kind : Kind) (i : List ℕ) → earlier_in low kind i z c → holds kind c.name ≡ true
  held_of Leaf i e = elim e [ ]
  held_of (Scope g) i e = (and_in (has g c.name) (starts i c.at) e.1).0
  held_of (Choice bs) i e = any_held bs i e
  held_of (Foreach pace g) i (inl e) = (and_in (has g c.name) (starts (i ++ e.0 ∷ []) c.at) e.2).0
  held_of (Foreach pace g) i (inr e) = (and_in (has g c.name) (starts (i ++ e.1 ∷ []) c.at) e.5).0
  held_of (Until most g) i (inl e) = (and_in (has g c.name) (starts (i ++ e.0 ∷ []) c.at) e.2).0
  held_of (Until most g) i (inr e) = (and_in (has g c.name) (starts (i ++ e.1 ∷ []) c.at) e.4).0

  -- an action that is the container sees nothing inside itself
  none_inside : (kind : Kind) (n : ℕ) → nat_eq n c.name ≡ true → holds kind n ≡ false → (i : List ℕ) → earlier_in low kind i z c → ⊥
  none_inside kind n is alone i e = clash (holds kind c.name) (held_of kind i e)
      (subst (λ (k : ℕ). holds kind k ≡ false) (eqb-true n c.name is) alone)

  mutual
    graph_follows : (g : Graph) → Once g → Contains g c.name x.name → (i : List ℕ) → starts i c.at ≡ true → together low g i z c
        → together low g i z x
    graph_follows done once inside' i begins both = elim both [ ]
    graph_follows (add n after kind rest) once inside' i begins (inl both) = elim (place n kind rest after once inside') [
      | container is held ↦ absurd (none_inside kind n is once.0 i both.2)
      | inner other held_c held_x deeper ↦
          inl (in_held n kind i x held_x (begins_x i begins), both.1, kind_follows kind once.2 held_x deeper i begins both.2)
      | later other out other_x out_x there ↦ absurd (clash (is_in n kind i c) both.0 (not_in n kind i c other out))
    ]
    graph_follows (add n after kind rest) once inside' i begins (inr both) = elim (place n kind rest after once inside') [
      | container is held ↦ absurd (clash (is_in n kind i c) (in_own n kind i c is begins) both.0)
      | inner other held_c held_x deeper ↦ absurd (clash (is_in n kind i c) (in_held n kind i c held_c begins) both.0)
      | later other out other_x out_x there ↦ inr (not_in n kind i x other_x out_x, graph_follows rest once.3 there i begins both.1)
    ]

    kind_follows : (kind : Kind) → OnceIn kind → holds kind x.name ≡ true → Among (around_in kind x.name) c.name → (i : List ℕ)
        → starts i c.at ≡ true
        → earlier_in low kind i z c → earlier_in low kind i z x
    kind_follows Leaf once in_x inside' i begins e = elim e [ ]
    kind_follows (Scope g) once in_x inside' i begins e =
        (e.0, within g i x in_x (begins_x i begins), level_follows g once inside' i begins (graph_follows g once inside' i begins) e.2)
    kind_follows (Choice bs) once in_x inside' i begins e = any_follows bs once inside' i begins e
    kind_follows (Foreach pace g) once in_x inside' i begins (inl turn) =
        inl (turn_follows g once in_x inside' i (λ j more. graph_follows g once inside' (i ++ j ∷ []) more) turn)
    kind_follows (Foreach pace g) once in_x inside' i begins (inr past) =
        inr (past.0, past.1, past.2, past.3, past.4, (into g (i ++ past.1 ∷ []) (λ h. in_x) past.5).0)
    kind_follows (Until most g) once in_x inside' i begins (inl turn) =
        inl (turn_follows g once in_x inside' i (λ j more. graph_follows g once inside' (i ++ j ∷ []) more) turn)
    kind_follows (Until most g) once in_x inside' i begins (inr past) =
        inr (past.0, past.1, past.2, past.3, (into g (i ++ past.1 ∷ []) (λ h. in_x) past.4).0)

    any_follows : (bs : Branches) → OnceAny bs → Among (around_any bs x.name) c.name → (i : List ℕ) → starts i c.at ≡ true
        → earlier_any low bs i z c → earlier_any low bs i z x
    any_follows no_branch once inside' i begins e = elim e [ ]
    any_follows (branch b rest) once inside' i begins (inl e) = elim (two (has b x.name)) [
      | inl in_x ↦
          let here = moved (around_any (branch b rest) x.name) (around b x.name) c.name (around-branch b rest x.name in_x) inside' in
          inl (e.0, within b i x in_x (begins_x i begins), level_follows b once.1 here i begins (graph_follows b once.1 here i begins) e.2)
      | inr out ↦
          let there = moved (around_any (branch b rest) x.name) (around_any rest x.name) c.name
          (around-branches b rest x.name out) inside' in
          absurd (clash (has b c.name) (and_in (has b c.name) (starts i c.at) e.1).0
          (branch_passed b rest c.name once.0 (branch_has rest x.name c.name there)))
    ]
    any_follows (branch b rest) once inside' i begins (inr e) = elim (two (has b x.name)) [
      | inl in_x ↦
          let here = moved (around_any (branch b rest) x.name) (around b x.name) c.name (around-branch b rest x.name in_x) inside' in
          absurd (clash (has b c.name) (around_has b x.name c.name here) (branch_passed b rest c.name once.0 (any_held rest i e)))
      | inr out ↦
          inr (any_follows rest once.2 (moved (around_any (branch b rest) x.name) (around_any rest x.name) c.name
          (around-branches b rest x.name out) inside') i begins e)
    ]

pub inside_seen : (g : Graph) → Once g → (c x z : Address) → Contains g c.name x.name → starts c.at x.at ≡ true → SeenIn g c z
    → SeenIn g x z
inside_seen g once c x z inside' goes seen = (
  seen.0,
  level_follows (IsBefore g) c x z goes g once inside' [] refl
      (graph_follows (IsBefore g) c x z goes g once inside' [] refl) seen.1,
)
