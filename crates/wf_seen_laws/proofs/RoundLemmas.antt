-- Who sees an instance sees each loop round it, or stands in that loop, too, in the same iteration or a later one.
use Rattle.std.proofs.Common.{◌≡◌, ℕ, ◌+◌, ◌≤◌, Bool, true, false, ◌&&◌, ◌||◌, List, [], ◌∷◌, ◌++◌, length, Option, Some, ◌⊎◌}
use Rattle.std.proofs.Common.{inl, inr, refl, sym, ap, ◌∙◌, subst, arith, true≢false, nat_eq, eqb-true, eq-eqb, length-append, append_assoc}
use Rattle.wf_layers.specs.Definition.{Pace, Kind, Leaf, Scope, Choice, Foreach, Until, Branches, no_branch, branch, Graph, done}
use Rattle.wf_layers.specs.Definition.{add, holds, has, has_any, IsBefore}
use Rattle.wf_layers.specs.Address.{Address, address, starts, is_in, is_within, owner, Lower, earlier_in, earlier_any, together, SeenIn}
use Rattle.wf_layers.specs.Seen.{Once, OnceIn, OnceAny}
use Rattle.wf_layers.proofs.Basics.{two, and_in, and_of, or_first, or_second, same_self, starts_outer, when, unless}
use Rattle.wf_loops.specs.Loops.{is_earlier, is_in_turn, loops_any, loops_in, loops_of}
use Rattle.wf_seen_laws.specs.Laws.{IsInTurnFrom, IsInTurnOf}
use Rattle.std.specs.Prelude.{nat_lt}
use Rattle.wf_loops.proofs.HeldLemmas.{passed}
use Rattle.wf_loops.proofs.NameLemmas.{earlier_has, earlier_has_any, together_has, within_has, within_starts}
use Rattle.wf_loops.proofs.RoundLemmas.{loops_none}
use Rattle.wf_loops.proofs.PrefixLemmas.{starts_front, starts_shorter}
use Rattle.wf_seen_laws.proofs.BackLemmas.{next_of}

pub none_split : (ps : List ℕ) (l : ℕ) (qs : List ℕ) → [] ≡ ps ++ l ∷ qs → ⊥
none_split [] l qs e = cc
none_split (p ∷ ps) l qs e = cc

pub first_is : {n l : ℕ} {ns ls : List ℕ} → n ∷ ns ≡ l ∷ ls → n ≡ l
first_is e = cc

pub tail_is : {n l : ℕ} {ns ls : List ℕ} → n ∷ ns ≡ l ∷ ls → ns ≡ ls
tail_is e = cc

-- ---- a loop round what stands in a graph stands there

mutual
  pub loop_held : (n : ℕ) (kind : Kind) (x l : ℕ) (outer inner : List ℕ) → loops_in n kind x ≡ outer ++ l ∷ inner
      → (nat_eq n l || holds kind l) ≡ true
  loop_held n Leaf x l outer inner e = absurd (none_split outer l inner e)
  loop_held n (Scope g) x l outer inner e = or_second (nat_eq n l) (has g l) (loop_has g x l outer inner e)
  loop_held n (Choice bs) x l outer inner e = or_second (nat_eq n l) (has_any bs l) (loop_among bs x l outer inner e)
  loop_held n (Foreach pace g) x l [] inner e = or_first (nat_eq n l) (has g l) (eq-eqb n l (first_is e))
  loop_held n (Foreach pace g) x l (o ∷ outer) inner e = or_second (nat_eq n l) (has g l) (loop_has g x l outer inner (tail_is e))
  loop_held n (Until most g) x l [] inner e = or_first (nat_eq n l) (has g l) (eq-eqb n l (first_is e))
  loop_held n (Until most g) x l (o ∷ outer) inner e = or_second (nat_eq n l) (has g l) (loop_has g x l outer inner (tail_is e))

  pub loop_among : (bs : Branches) (x l : ℕ) (outer inner : List ℕ) → loops_any bs x ≡ outer ++ l ∷ inner → has_any bs l ≡ true
  loop_among no_branch x l outer inner e = absurd (none_split outer l inner e)
  loop_among (branch b rest) x l outer inner e = elim (two (has b x)) [
    | inl t ↦ or_first (has b l) (has_any rest l)
        (loop_has b x l outer inner (sym (when (has b x) (loops_of b x) (loops_any rest x) t) ∙ e))
    | inr f ↦ or_second (has b l) (has_any rest l)
        (loop_among rest x l outer inner (sym (unless (has b x) (loops_of b x) (loops_any rest x) f) ∙ e))
  ]

  pub loop_has : (g : Graph) (x l : ℕ) (outer inner : List ℕ) → loops_of g x ≡ outer ++ l ∷ inner → has g l ≡ true
  loop_has done x l outer inner e = absurd (none_split outer l inner e)
  loop_has (add n after kind rest) x l outer inner e = elim (two (holds kind x)) [
    | inl t ↦ or_first (nat_eq n l || holds kind l) (has rest l)
        (loop_held n kind x l outer inner (sym (when (holds kind x) (loops_in n kind x) (loops_of rest x) t) ∙ e))
    | inr f ↦ or_second (nat_eq n l || holds kind l) (has rest l)
        (loop_has rest x l outer inner (sym (unless (holds kind x) (loops_in n kind x) (loops_of rest x) f) ∙ e))
  ]

-- ---- indexes

-- one list of indexes is a front of another, and as long as a third that is one, too
pub same_front : (a i xs : List ℕ) → starts i (a ++ xs) ≡ true → length a ≡ length i → a ≡ i
same_front [] [] xs s long = refl
same_front [] (b ∷ i) xs s long = absurd (omega (arith, long))
same_front (a ∷ as') [] xs s long = absurd (omega (arith, long))
same_front (a ∷ as') (b ∷ i) xs s long =
    let h = and_in (nat_eq b a) (starts i (as' ++ xs)) s in
    ap (λ (k : ℕ). k ∷ as') (sym (eqb-true b a h.0)) ∙ ap (λ (ks : List ℕ). b ∷ ks) (same_front as' i xs h.1 (omega (arith, long)))

pub rest_of : (a at : List ℕ) → starts a at ≡ true → (rest : List ℕ) × (at ≡ a ++ rest)
rest_of [] at s = (at, refl)
rest_of (j ∷ a) [] s = absurd (true≢false (sym s))
rest_of (j ∷ a) (m ∷ at) s =
    let h = and_in (nat_eq j m) (starts a at) s in
    let r = rest_of a at h.1 in
    (r.0, ap (λ (k : ℕ). k ∷ at) (sym (eqb-true j m h.0)) ∙ ap (λ (ks : List ℕ). j ∷ ks) r.1)

-- who sees what is in one action with it stands in the graph
module _ (low : ℕ → ℕ → Type 0) where
  pub later_has : (g : Graph) (i : List ℕ) (y z : Address) → together low g i y z → has g z.name ≡ true
  later_has done i y z t = absurd t
  later_has (add n after kind rest) i y z (inl h) =
      or_first (nat_eq n z.name || holds kind z.name) (has rest z.name)
      (and_in (nat_eq n z.name || holds kind z.name) (starts i z.at) h.0).0
  later_has (add n after kind rest) i y z (inr h) =
      or_second (nat_eq n z.name || holds kind z.name) (has rest z.name) (later_has rest i y z h.1)

-- ---- x is seen by z, and stands in the iteration k of the loop l, which stands at the indexes a

module _ (low : ℕ → ℕ → Type 0) (x z : Address) (l : ℕ) (inner a : List ℕ) (k : ℕ) (behind : List ℕ) (is : x.at ≡ a ++ k ∷ behind) where
  abbrev Loop : Address
  Loop = address l a

  -- the loop stands in so many loops of a graph at the indexes i
  abbrev Depth : List ℕ → List ℕ → Type 0
  Depth outer i = length a ≡ length i + length outer

  -- z stands in the loop, too
  pub record Turn (ls outer : List ℕ) : Type 0 where
    pub own : ℕ
    pub more : List ℕ
    pub loops : ls ≡ outer ++ l ∷ more
    pub others : List ℕ
    pub indexes : z.at ≡ a ++ own ∷ others
    pub from : k ≤ own

  moved : (ls ms outer : List ℕ) → ls ≡ ms → Turn ms outer → Turn ls outer
  moved ls ms outer same t = record {
    own = t.own;
    more = t.more;
    loops = same ∙ t.loops;
    others = t.others;
    indexes = t.indexes;
    from = t.from;
  }

  deeper : (n : ℕ) (ms outer : List ℕ) → Turn ms outer → Turn (n ∷ ms) (n ∷ outer)
  deeper n ms outer t = record {
    own = t.own;
    more = t.more;
    loops = ap (λ (ls : List ℕ). n ∷ ls) t.loops;
    others = t.others;
    indexes = t.indexes;
    from = t.from;
  }

  renamed : (n o : ℕ) (outer ms : List ℕ) → n ≡ o → Turn ms outer → Turn (n ∷ ms) (o ∷ outer)
  renamed n o outer ms same t = moved (n ∷ ms) (o ∷ ms) (o ∷ outer) (ap (λ (q : ℕ). q ∷ ms) same) (deeper o ms outer t)

  a_starts : starts a x.at ≡ true
  a_starts = subst (λ (at : List ℕ). starts a at ≡ true) (sym is) (starts_front a (k ∷ behind))

  front_of : (i outer : List ℕ) → Depth outer i → starts i x.at ≡ true → starts i a ≡ true
  front_of i outer dep s = starts_shorter i a x.at s a_starts (omega (arith, dep))

  loop_in : (g : Graph) (i outer : List ℕ) → loops_of g x.name ≡ outer ++ l ∷ inner → starts i a ≡ true → is_within g i Loop ≡ true
  loop_in g i outer e s = and_of (has g l) (starts i a) (loop_has g x.name l outer inner e) s

  -- the loop lies in the action of a graph in which x lies
  owner_loop : (g : Graph) (i outer : List ℕ) → Once g → loops_of g x.name ≡ outer ++ l ∷ inner → starts i a ≡ true
      → starts i x.at ≡ true → owner g i Loop ≡ owner g i x
  owner_loop done i outer once e s t = absurd (none_split outer l inner e)
  owner_loop (add n after kind rest) i outer once e s t = elim (two (holds kind x.name)) [
    | inl h ↦
        let e' = sym (when (holds kind x.name) (loops_in n kind x.name) (loops_of rest x.name) h) ∙ e in
        when (is_in n kind i Loop) (Some n) (owner rest i Loop)
        (and_of (nat_eq n l || holds kind l) (starts i a) (loop_held n kind x.name l outer inner e') s)
        ∙ sym (when (is_in n kind i x) (Some n) (owner rest i x)
        (and_of (nat_eq n x.name || holds kind x.name) (starts i x.at) (or_second (nat_eq n x.name) (holds kind x.name) h) t))
    | inr f ↦
        let e' = sym (unless (holds kind x.name) (loops_in n kind x.name) (loops_of rest x.name) f) ∙ e in
        let there = passed n kind rest once.1 l (loop_has rest x.name l outer inner e') in
        unless (is_in n kind i Loop) (Some n) (owner rest i Loop)
        (ap (λ (b : Bool). (b || holds kind l) && starts i a) there.0 ∙ ap (λ (b : Bool). b && starts i a) there.1)
        ∙ (owner_loop rest i outer once.3 e' s t ∙ sym (unless (is_in n kind i x) (Some n) (owner rest i x) (own_off f e')))
  ]
    where
      own_off : holds kind x.name ≡ false → loops_of rest x.name ≡ outer ++ l ∷ inner → is_in n kind i x ≡ false
      own_off f e' = elim (two (nat_eq n x.name)) [
        | inl same ↦ absurd (none_split outer l inner
            (sym (nowhere (once.1 x.name (or_first (nat_eq n x.name) (holds kind x.name) same))) ∙ e'))
        | inr other ↦ ap (λ (b : Bool). (b || holds kind x.name) && starts i x.at) other ∙ ap (λ (b : Bool). b && starts i x.at) f
      ]
        where
          nowhere : has rest x.name ≡ false → loops_of rest x.name ≡ []
          nowhere off = loops_none rest x.name off

  abbrev Sides : Graph → List ℕ → Address → Type 0
  Sides g i u = Lower low (owner g i u) (owner g i z) ⊎ together low g i u z

  sides : (g : Graph) (i outer : List ℕ) → Once g → loops_of g x.name ≡ outer ++ l ∷ inner → Depth outer i → starts i x.at ≡ true
      → (together low g i x z → together low g i Loop z ⊎ Turn (loops_of g z.name) outer) → Sides g i x
      → Sides g i Loop ⊎ Turn (loops_of g z.name) outer
  sides g i outer once e dep s further (inl lower) =
      inl (inl (subst (λ (o : Option ℕ). Lower low o (owner g i z)) (sym (owner_loop g i outer once e (front_of i outer dep s) s)) lower))
  sides g i outer once e dep s further (inr h) = elim (further h) [ inl seen ↦ inl (inr seen) | inr turn ↦ inr turn ]

  -- the loop itself, z in one of its iterations
  itself : (n : ℕ) (g : Graph) (i : List ℕ) (j m : ℕ) → n ≡ l → Depth [] i → starts (i ++ j ∷ []) x.at ≡ true
      → starts (i ++ m ∷ []) z.at ≡ true → j ≤ m → Turn (n ∷ loops_of g z.name) []
  itself n g i j m e dep s t le =
      let same : a ≡ i = same_front a i (k ∷ behind) (subst (λ (at : List ℕ). starts i at ≡ true) is (starts_outer i j x.at s))
      (omega (arith, dep)) in
      let here = next_of i x.at j (k ∷ behind) s (is ∙ ap (λ (at : List ℕ). at ++ k ∷ behind) same) in
      let there = rest_of (i ++ m ∷ []) z.at t in record {
        own = m;
        more = loops_of g z.name;
        loops = ap (λ (q : ℕ). q ∷ loops_of g z.name) e;
        others = there.0;
        indexes = there.1 ∙ (append_assoc i (m ∷ []) there.0 ∙ ap (λ (at : List ℕ). at ++ m ∷ there.0) (sym same));
        from = omega (arith, le, first_is here.first);
      }

  deep : (i outer : List ℕ) (o j : ℕ) → Depth (o ∷ outer) i → Depth outer (i ++ j ∷ [])
  deep i outer o j dep = omega (arith, dep, length-append i (j ∷ []))

  mutual
    round_in : (n : ℕ) (kind : Kind) (i outer : List ℕ) → OnceIn kind → loops_in n kind x.name ≡ outer ++ l ∷ inner → Depth outer i
        → starts i x.at ≡ true → earlier_in low kind i x z → earlier_in low kind i Loop z ⊎ Turn (loops_in n kind z.name) outer
    round_in n Leaf i outer once e dep s h = absurd h
    round_in n (Scope g) i outer once e dep s h = elim
        (sides g i outer once e dep s (λ t. round_of g i outer once e dep s t) h.2) [
          | inl seen ↦ inl (loop_in g i outer e (front_of i outer dep s), h.1, seen)
          | inr turn ↦ inr turn
        ]
    round_in n (Choice bs) i outer once e dep s h = round_any bs i outer once e dep s h
    round_in n (Foreach pace g) i [] once e dep s (inl h) =
        inr (itself n g i h.0 h.0 (first_is e) dep (within_starts g (i ++ h.0 ∷ []) x h.1) (within_starts g (i ++ h.0 ∷ []) z h.2)
        (omega arith))
    round_in n (Foreach pace g) i [] once e dep s (inr h) =
        inr (itself n g i h.0 h.1 (first_is e) dep (within_starts g (i ++ h.0 ∷ []) x h.4) (within_starts g (i ++ h.1 ∷ []) z h.5)
        (omega (arith, h.3)))
    round_in n (Foreach pace g) i (o ∷ outer) once e dep s (inl h) =
        let at = i ++ h.0 ∷ [] in
        let s' = within_starts g (i ++ h.0 ∷ []) x h.1 in
        let e' = tail_is e in
        let dep' = deep i outer o h.0 dep in
        elim (sides g (i ++ h.0 ∷ []) outer once e' dep' s' (λ t. round_of g (i ++ h.0 ∷ []) outer once e' dep' s' t) h.3) [
          | inl seen ↦ inl (inl (h.0, loop_in g (i ++ h.0 ∷ []) outer e' (front_of (i ++ h.0 ∷ []) outer dep' s'), h.2, seen))
          | inr turn ↦ inr (renamed n o outer (loops_of g z.name) (first_is e) turn)
        ]
    round_in n (Foreach pace g) i (o ∷ outer) once e dep s (inr h) =
        let s' = within_starts g (i ++ h.0 ∷ []) x h.4 in
        inl (inr (
          h.0,
          h.1,
          h.2,
          h.3,
          loop_in g (i ++ h.0 ∷ []) outer (tail_is e) (front_of (i ++ h.0 ∷ []) outer (deep i outer o h.0 dep) s'),
          h.5,
        ))
    round_in n (Until most g) i [] once e dep s (inl h) =
        inr (itself n g i h.0 h.0 (first_is e) dep (within_starts g (i ++ h.0 ∷ []) x h.1) (within_starts g (i ++ h.0 ∷ []) z h.2)
        (omega arith))
    round_in n (Until most g) i [] once e dep s (inr h) =
        inr (itself n g i h.0 h.1 (first_is e) dep (within_starts g (i ++ h.0 ∷ []) x h.3) (within_starts g (i ++ h.1 ∷ []) z h.4)
        (omega (arith, h.2)))
    round_in n (Until most g) i (o ∷ outer) once e dep s (inl h) =
        let s' = within_starts g (i ++ h.0 ∷ []) x h.1 in
        let e' = tail_is e in
        let dep' = deep i outer o h.0 dep in
        elim (sides g (i ++ h.0 ∷ []) outer once e' dep' s' (λ t. round_of g (i ++ h.0 ∷ []) outer once e' dep' s' t) h.3) [
          | inl seen ↦ inl (inl (h.0, loop_in g (i ++ h.0 ∷ []) outer e' (front_of (i ++ h.0 ∷ []) outer dep' s'), h.2, seen))
          | inr turn ↦ inr (renamed n o outer (loops_of g z.name) (first_is e) turn)
        ]
    round_in n (Until most g) i (o ∷ outer) once e dep s (inr h) =
        let s' = within_starts g (i ++ h.0 ∷ []) x h.3 in
        inl (inr (
          h.0,
          h.1,
          h.2,
          loop_in g (i ++ h.0 ∷ []) outer (tail_is e) (front_of (i ++ h.0 ∷ []) outer (deep i outer o h.0 dep) s'),
          h.4,
        ))

    round_any : (bs : Branches) (i outer : List ℕ) → OnceAny bs → loops_any bs x.name ≡ outer ++ l ∷ inner → Depth outer i
        → starts i x.at ≡ true → earlier_any low bs i x z → earlier_any low bs i Loop z ⊎ Turn (loops_any bs z.name) outer
    round_any no_branch i outer once e dep s h = absurd h
    round_any (branch b rest) i outer once e dep s (inl h) =
        let e' = sym (when (has b x.name) (loops_of b x.name) (loops_any rest x.name) (within_has b i x h.0)) ∙ e in
        elim (sides b i outer once.1 e' dep s (λ t. round_of b i outer once.1 e' dep s t) h.2) [
          | inl seen ↦ inl (inl (loop_in b i outer e' (front_of i outer dep s), h.1, seen))
          | inr turn ↦ inr (moved (loops_any (branch b rest) z.name) (loops_of b z.name) outer
              (when (has b z.name) (loops_of b z.name) (loops_any rest z.name) (within_has b i z h.1)) turn)
        ]
    round_any (branch b rest) i outer once e dep s (inr h) =
        let there = earlier_has_any low rest i x z h in
        elim (round_any rest i outer once.2
        (sym (unless (has b x.name) (loops_of b x.name) (loops_any rest x.name) (off x.name there.0)) ∙ e) dep s h) [
          | inl seen ↦ inl (inr seen)
          | inr turn ↦ inr (moved (loops_any (branch b rest) z.name) (loops_any rest z.name) outer
              (unless (has b z.name) (loops_of b z.name) (loops_any rest z.name) (off z.name there.1)) turn)
        ]
      where
        off : (m : ℕ) → has_any rest m ≡ true → has b m ≡ false
        off m there = elim (two (has b m)) [ inl t ↦ absurd (true≢false (sym there ∙ once.0 m t)) | inr f ↦ f ]

    round_of : (g : Graph) (i outer : List ℕ) → Once g → loops_of g x.name ≡ outer ++ l ∷ inner → Depth outer i → starts i x.at ≡ true
        → together low g i x z → together low g i Loop z ⊎ Turn (loops_of g z.name) outer
    round_of done i outer once e dep s h = absurd h
    round_of (add n after kind rest) i outer once e dep s (inl h) =
        let held = earlier_has low kind i x z h.2 in
        let e' = sym (when (holds kind x.name) (loops_in n kind x.name) (loops_of rest x.name) held.0) ∙ e in
        elim (round_in n kind i outer once.2 e' dep s h.2) [
          | inl seen ↦ inl (inl (
            h.0,
            and_of (nat_eq n l || holds kind l) (starts i a) (loop_held n kind x.name l outer inner e') (front_of i outer dep s),
            seen,
          ))
          | inr turn ↦ inr (moved (loops_of (add n after kind rest) z.name) (loops_in n kind z.name) outer
              (when (holds kind z.name) (loops_in n kind z.name) (loops_of rest z.name) held.1) turn)
        ]
    round_of (add n after kind rest) i outer once e dep s (inr h) =
        let px = passed n kind rest once.1 x.name (together_has low rest i x z h.1) in
        elim (round_of rest i outer once.3
        (sym (unless (holds kind x.name) (loops_in n kind x.name) (loops_of rest x.name) px.1) ∙ e) dep s h.1) [
          | inl seen ↦ inl (inr (h.0, seen))
          | inr turn ↦ inr (moved (loops_of (add n after kind rest) z.name) (loops_of rest z.name) outer
              (unless (holds kind z.name) (loops_in n kind z.name) (loops_of rest z.name) (elim (two (holds kind z.name)) [
                | inl t ↦ absurd (true≢false (sym (later_has low rest i x z h.1) ∙ once.1 z.name
                    (or_second (nat_eq n z.name) (holds kind z.name) t)))
                | inr f ↦ f
              ])) turn)
        ]

  pub round_seen : (g : Graph) (i outer : List ℕ) → Once g → loops_of g x.name ≡ outer ++ l ∷ inner → Depth outer i
      → starts i x.at ≡ true → Sides g i x → Sides g i Loop ⊎ Turn (loops_of g z.name) outer
  round_seen g i outer once e dep s h = sides g i outer once e dep s (λ t. round_of g i outer once e dep s t) h

-- THE LAW
pub seen_from : (g : Graph) → Once g → (z x : Address) (l : ℕ) (outer at : List ℕ) (turn : ℕ) → IsInTurnOf g x l outer at turn
    → SeenIn g z x → SeenIn g z (address l at) ⊎ IsInTurnFrom g z l outer at turn
seen_from g once z x l outer at turn of seen = elim
    (round_seen (IsBefore g) x z l of.inner at turn of.behind of.indexes g [] outer once of.loops
    (omega (arith, of.each_loop)) refl seen.1) [
      | inl h ↦ inl (and_of (has g l) true (loop_has g x.name l outer of.inner of.loops) refl, h)
      | inr t ↦ inr (record {
        own = t.own;
        stands = record { inner = t.more; loops = t.loops; behind = t.others; indexes = t.indexes; each_loop = of.each_loop };
        from = t.from;
      })
    ]

-- of indexes that go on from others, no loop tells which are earlier
pub front_tells : (ps : List Pace) (is js : List ℕ) (b : Bool) → is_earlier ps is (is ++ js) b ≡ true → b ≡ true
front_tells [] is js b e = e
front_tells (p ∷ ps) [] js b e = absurd (true≢false (sym e))
front_tells (p ∷ ps) (i ∷ is) js b e =
    front_tells ps is js b (sym (when (nat_eq i i) (is_earlier ps is (is ++ js) b) (is_in_turn p && nat_lt i i) (same_self i)) ∙ e)
