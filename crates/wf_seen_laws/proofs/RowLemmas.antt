-- A row in a loop stands in an iteration that the loop was closed with.
use Rattle.std.proofs.Common.{◌≡◌, ℕ, ◌+◌, ◌<◌, Bool, true, false, ◌&&◌, ◌||◌, cond, List, [], ◌∷◌, ◌++◌, length, Option, Some, None, ◌⊎◌}
use Rattle.std.proofs.Common.{inl, inr, refl, sym, ap, ◌∙◌, subst, arith, true≢false, nat_eq, length-append}
use Rattle.std.proofs.lemmas.Option.{none-some}
use Rattle.wf_layers.specs.Definition.{Kind, Leaf, Scope, Choice, Foreach, Until, Branches, no_branch, branch, Graph, done, add, holds, has}
use Rattle.wf_layers.specs.Definition.{has_any, is_one, less_one, kind_any, kind_in, kind_of, plain, shows}
use Rattle.wf_layers.specs.Address.{Address, Table, address, same_at, starts, is_among, is_in, is_own, is_within}
use Rattle.wf_layers.specs.Called.{iterations}
use Rattle.wf_layers.specs.Laws.{IsFresh}
use Rattle.wf_layers.specs.Meaning.{last, only, sides, skip, skip_all}
use Rattle.wf_layers.specs.Resubmission.{Split, SplitAny, SplitIn, kept}
use Rattle.wf_layers.specs.Rule.{look, look_any, look_in, Obeys}
use Rattle.wf_layers.specs.Seen.{Once, OnceIn, OnceAny}
use Rattle.wf_layers.specs.Source.{Source, gate}
use Rattle.wf_layers.proofs.Basics.{two, and_in, and_of, not_true, or_second, when, unless, same_self, same_self_at, held_in}
use Rattle.wf_layers.proofs.Basics.{in_within, inner_not_own, outer_of, own_in, rest_within, sides_at, sides_out, some_turn, starts_outer}
use Rattle.wf_layers.proofs.Basics.{among_here, among_there}
use Rattle.wf_layers.proofs.Tables.{same_at_is}
use Rattle.wf_loops.specs.Loops.{loops_any, loops_in, loops_of}
use Rattle.wf_loops.proofs.HeldLemmas.{not_own, passed}
use Rattle.wf_loops.proofs.InsideLemmas.{kind_has, kind_has_any, kind_has_in}
use Rattle.wf_seen_laws.specs.Laws.{HadMore, HadTurn, IsInTurnOf, IsKept}
use Rattle.wf_seen_laws.proofs.BackLemmas.{next_of}
use Rattle.wf_seen_laws.proofs.RoundLemmas.{first_is, none_split, same_front, tail_is}

when_some : {A : Type 0} (b : Bool) (u : Option A) (w : A) → cond b u None ≡ Some w → b ≡ true
when_some true u w e = refl
when_some false u w e = absurd (none-some w e)

-- x isn't kept of an older table
module _ {Row Begun Decision Verdict : Type 0} (m : Source Row Begun Decision Verdict) (redo again : ℕ → Bool)
    (pins : (n : ℕ) → m.pinned n ≡ kept redo again n) (f : Table Row) (x : Address) (r : Row) (there : f x ≡ Some r)
    (new : kept redo again x.name ≡ false) (l : ℕ) (inner a : List ℕ) (k : ℕ) (behind : List ℕ) (is : x.at ≡ a ++ k ∷ behind) where
  abbrev Loop : Address
  Loop = address l a

  abbrev Depth : List ℕ → List ℕ → Type 0
  Depth outer i = length a ≡ length i + length outer

  -- what the rows obey
  abbrev Rule : Graph → List ℕ → Type 0
  Rule g i = (y : Address) → is_within g i y ≡ true → f y ≡ look m g i f y

  abbrev RuleIn : Kind → ℕ → List ℕ → Type 0
  RuleIn kind n i = (y : Address) → is_in n kind i y ≡ true → f y ≡ look_in m kind n i f y

  abbrev RuleAny : Branches → ℕ → List ℕ → Type 0
  RuleAny bs c i = (y : Address) → is_among bs i y ≡ true → f y ≡ look_any m bs c i f y

  record Had (found : Option Kind) : Type 0 where
    pub kind : Kind
    pub found' : found ≡ Some kind
    pub had : HadMore m f kind Loop k

  had_as : (o q : Option Kind) → q ≡ o → Had o → Had q
  had_as o q same h = record { kind = h.kind; found' = same ∙ h.found'; had = h.had }

  -- a Skipped row stands in no loop of what is skipped
  not_skipped : (i outer : List ℕ) → Depth outer i → same_at i x.at ≡ true → ⊥
  not_skipped i outer dep same = omega (
    arith,
    dep,
    ap length (same_at_is i x.at same),
    ap length is,
    length-append a (k ∷ behind),
  )

  -- what is in a loop stands in one of its iterations
  some_iteration : (c : ℕ) (g : Graph) (i : List ℕ) (body : ℕ → Table Row → Table Row)
      → f x ≡ only (is_within g i x) (sides c i body (λ y. None) x) → (j : ℕ) × (j < c) × (starts (i ++ j ∷ []) x.at ≡ true)
  some_iteration c g i body rule = elim (some_turn c i x.at) [
    | inl turn ↦ turn
    | inr none ↦ absurd (none-some r (sym (sym there ∙ (rule ∙ nothing (is_within g i x) (sides_out c i body (λ y. None) x none)))))
  ]
    where
      nothing : (b : Bool) {u : Option Row} → u ≡ None → only b u ≡ None
      nothing true e = e
      nothing false e = refl

  -- at the loop itself
  loop_is : (n : ℕ) (i : List ℕ) (j : ℕ) → n ≡ l → Depth [] i → starts (i ++ j ∷ []) x.at ≡ true → (address n i ≡ Loop) × (j ≡ k)
  loop_is n i j e dep s =
      let same : a ≡ i = same_front a i (k ∷ behind) (subst (λ (at : List ℕ). starts i at ≡ true) is (starts_outer i j x.at s))
      (omega (arith, dep)) in
      let here = next_of i x.at j (k ∷ behind) s (is ∙ ap (λ (at : List ℕ). at ++ k ∷ behind) same) in
      (ap (λ (q : ℕ). address q i) e ∙ ap (λ (at : List ℕ). address l at) (sym same), sym (first_is here.first))

  deep : (i outer : List ℕ) (o j : ℕ) → Depth (o ∷ outer) i → Depth outer (i ++ j ∷ [])
  deep i outer o j dep = omega (arith, dep, length-append i (j ∷ []))

  -- the rule inside a container
  inside : (kind : Kind) (n : ℕ) (i : List ℕ) (g : Graph) (u : Option Row) (v : Table Row) (y : Address) → holds kind n ≡ false
      → holds kind y.name ≡ true → f y ≡ cond (is_own n i y) u (v y) → f y ≡ v y
  inside kind n i g u v y off held rule = rule ∙ unless (is_own n i y) u (v y) (inner_not_own n kind i y off held)

  own_row : (n : ℕ) (i : List ℕ) (u v : Option Row) → f (address n i) ≡ cond (is_own n i (address n i)) u v → f (address n i) ≡ u
  own_row n i u v rule =
      rule ∙ when (is_own n i (address n i)) u v (and_of (nat_eq n n) (same_at i i) (same_self n) (same_self_at i))

  -- the rule in one iteration
  one_turn : (c : ℕ) (g : Graph) (i : List ℕ) (j : ℕ) → j < c
      → ((y : Address) → is_within g i y ≡ true → f y ≡ only (is_within g i y) (sides c i (λ q t. look m g (i ++ q ∷ []) f) (λ q. None) y))
      → Rule g (i ++ j ∷ [])
  one_turn c g i j lt in_turns y w =
      let o = outer_of g i j y w in
      in_turns y o
      ∙ (when (is_within g i y) (sides c i (λ q t. look m g (i ++ q ∷ []) f) (λ q. None) y) None o
      ∙ sides_at c i (λ q t. look m g (i ++ q ∷ []) f) (λ q. None) y j lt (and_in (has g y.name) (starts (i ++ j ∷ []) y.at) w).1)

  mutual
    had_in : (kind : Kind) (n : ℕ) (i outer : List ℕ) → OnceIn kind → SplitIn redo again kind n → holds kind n ≡ false → RuleIn kind n i
        → loops_in n kind x.name ≡ outer ++ l ∷ inner → Depth outer i → starts i x.at ≡ true → holds kind x.name ≡ true
        → ((n ≡ l) × Had (Some kind)) ⊎ Had (kind_in kind l)
    had_in Leaf n i outer once split off rule e dep s hx = absurd (true≢false (sym hx))
    had_in (Scope g) n i outer once split off rule e dep s hx =
        inr (had_of g i outer once split (λ y w.
        let hy = (and_in (has g y.name) (starts i y.at) w).0 in
        rule y (held_in n (Scope g) i y w)
        ∙ (unless (is_own n i y) (Some (m.close (address n i) (m.decide (address n i) f) 0 None f))
        (only (is_within g i y) (look m g i f y))
        (inner_not_own n (Scope g) i y off hy)
        ∙ when (is_within g i y) (look m g i f y) None w)) e dep s)
    had_in (Choice bs) n i outer once split off rule e dep s hx =
        inr (had_any bs (m.taken (m.decide (address n i) f)) i outer once split (λ y w.
        let hy = (and_in (has_any bs y.name) (starts i y.at) w).0 in
        rule y (held_in n (Choice bs) i y w)
        ∙ (unless (is_own n i y) (Some (m.close (address n i) (m.decide (address n i) f) 0 None f))
        (only (is_among bs i y) (look_any m bs (m.taken (m.decide (address n i) f)) i f y))
        (inner_not_own n (Choice bs) i y off hy)
        ∙ when (is_among bs i y) (look_any m bs (m.taken (m.decide (address n i) f)) i f y) None w)) e dep s)
    had_in (Foreach pace g) n i [] once split off rule e dep s hx =
        let c = m.items (m.decide (address n i) f) in
        let wx = and_of (has g x.name) (starts i x.at) hx s in
        let turn = some_iteration c g i (λ j t. look m g (i ++ j ∷ []) f)
        (rule x (held_in n (Foreach pace g) i x wx)
        ∙ unless (is_own n i x) (Some (m.close (address n i) (m.decide (address n i) f) 0 None f))
        (only (is_within g i x) (sides c i (λ j t. look m g (i ++ j ∷ []) f) (λ y. None) x))
        (inner_not_own n (Foreach pace g) i x off hx)) in
        let at = loop_is n i turn.0 (first_is e) dep turn.2 in
        inl (
          first_is e,
          record {
            kind = Foreach pace g;
            found' = refl;
            had = subst (λ (y : Address). HadMore m f (Foreach pace g) y k) at.0 (
              own_row n i (Some (m.close (address n i) (m.decide (address n i) f) 0 None f))
                  (only (is_within g i (address n i)) (sides c i (λ j t. look m g (i ++ j ∷ []) f) (λ y. None) (address n i)))
                  (rule (address n i) (own_in n (Foreach pace g) i)),
              subst (λ (j : ℕ). j < c) at.1 turn.1,
            );
          },
        )
    had_in (Foreach pace g) n i (o ∷ outer) once split off rule e dep s hx =
        let c = m.items (m.decide (address n i) f) in
        let wx = and_of (has g x.name) (starts i x.at) hx s in
        let in_turns : (y : Address) → is_within g i y ≡ true
        → f y ≡ only (is_within g i y) (sides c i (λ j t. look m g (i ++ j ∷ []) f) (λ q. None) y) =
        λ y w. rule y (held_in n (Foreach pace g) i y w)
        ∙ unless (is_own n i y) (Some (m.close (address n i) (m.decide (address n i) f) 0 None f))
        (only (is_within g i y) (sides c i (λ j t. look m g (i ++ j ∷ []) f) (λ q. None) y))
        (inner_not_own n (Foreach pace g) i y off (and_in (has g y.name) (starts i y.at) w).0) in
        let turn = some_iteration c g i (λ j t. look m g (i ++ j ∷ []) f) (in_turns x wx) in
        inr (had_of g (i ++ turn.0 ∷ []) outer once split.2 (λ y w. one_turn c g i turn.0 turn.1 in_turns y w) (tail_is e)
        (deep i outer o turn.0 dep)
        turn.2)
    had_in (Until most g) n i [] once split off rule e dep s hx =
        let c = iterations m (Until most g) (address n i) f in
        let row = m.close (address n i) (m.decide (address n i) f) c (last c (λ j. m.test (address n i) j f)) f in
        let wx = and_of (has g x.name) (starts i x.at) hx s in
        let turn = some_iteration c g i (λ j t. look m g (i ++ j ∷ []) f)
        (rule x (held_in n (Until most g) i x wx)
        ∙ unless (is_own n i x) (Some row) (only (is_within g i x) (sides c i (λ j t. look m g (i ++ j ∷ []) f) (λ y. None) x))
        (inner_not_own n (Until most g) i x off hx)) in
        let at = loop_is n i turn.0 (first_is e) dep turn.2 in
        inl (
          first_is e,
          record {
            kind = Until most g;
            found' = refl;
            had = subst (λ (y : Address). HadMore m f (Until most g) y k) at.0 (
              own_row n i (Some row)
                  (only (is_within g i (address n i)) (sides c i (λ j t. look m g (i ++ j ∷ []) f) (λ y. None) (address n i)))
                  (rule (address n i) (own_in n (Until most g) i)),
              subst (λ (j : ℕ). j < c) at.1 turn.1,
            );
          },
        )
    had_in (Until most g) n i (o ∷ outer) once split off rule e dep s hx =
        let c = iterations m (Until most g) (address n i) f in
        let row = m.close (address n i) (m.decide (address n i) f) c (last c (λ j. m.test (address n i) j f)) f in
        let wx = and_of (has g x.name) (starts i x.at) hx s in
        let in_turns : (y : Address) → is_within g i y ≡ true
        → f y ≡ only (is_within g i y) (sides c i (λ j t. look m g (i ++ j ∷ []) f) (λ q. None) y) =
        λ y w. rule y (held_in n (Until most g) i y w)
        ∙ unless (is_own n i y) (Some row) (only (is_within g i y) (sides c i (λ j t. look m g (i ++ j ∷ []) f) (λ q. None) y))
        (inner_not_own n (Until most g) i y off (and_in (has g y.name) (starts i y.at) w).0) in
        let turn = some_iteration c g i (λ j t. look m g (i ++ j ∷ []) f) (in_turns x wx) in
        inr (had_of g (i ++ turn.0 ∷ []) outer once split.2 (λ y w. one_turn c g i turn.0 turn.1 in_turns y w) (tail_is e)
        (deep i outer o turn.0 dep)
        turn.2)

    had_any : (bs : Branches) (c : ℕ) (i outer : List ℕ) → OnceAny bs → SplitAny redo again bs → RuleAny bs c i
        → loops_any bs x.name ≡ outer ++ l ∷ inner → Depth outer i → starts i x.at ≡ true → Had (kind_any bs l)
    had_any no_branch c i outer once split rule e dep s = absurd (none_split outer l inner e)
    had_any (branch b rest) c i outer once split rule e dep s = elim (two (has b x.name)) [
      | inl hx ↦ elim (two (is_one c)) [
        | inl one ↦
            let h = had_of b i outer once.1 split.0 (λ y w. rule y (among_here b rest i y w)
            ∙ (when (is_within b i y) (cond (is_one c) (look m b i f y) (skip_all m b i y)) (look_any m rest (less_one c) i f y) w
            ∙ when (is_one c) (look m b i f y) (skip_all m b i y) one))
            (sym (when (has b x.name) (loops_of b x.name) (loops_any rest x.name) hx) ∙ e) dep s in
            had_as (kind_of b l) (kind_any (branch b rest) l)
            (when (has b l) (kind_of b l) (kind_any rest l) (kind_has b l h.kind h.found')) h
        | inr other ↦
            let wx = and_of (has b x.name) (starts i x.at) hx s in
            absurd (not_skipped i outer dep (and_in (plain b x.name) (same_at i x.at)
            (when_some (plain b x.name && same_at i x.at) (Some m.skipped) r
            (sym (rule x (among_here b rest i x wx)
            ∙ (when (is_within b i x) (cond (is_one c) (look m b i f x) (skip_all m b i x)) (look_any m rest (less_one c) i f x) wx
            ∙ (unless (is_one c) (look m b i f x) (skip_all m b i x) other
            ∙ unless (m.pinned x.name) (m.old x) (cond (plain b x.name && same_at i x.at) (Some m.skipped) None)
            (pins x.name ∙ new))))
            ∙ there))).1)
      ]
      | inr off ↦
          let h = had_any rest (less_one c) i outer once.2 split.1 (λ y w. rule y (among_there b rest i y w)
          ∙ unless (is_within b i y) (cond (is_one c) (look m b i f y) (skip_all m b i y)) (look_any m rest (less_one c) i f y)
          (ap (λ (q : Bool). q && starts i y.at) (apart y.name (and_in (has_any rest y.name) (starts i y.at) w).0)))
          (sym (unless (has b x.name) (loops_of b x.name) (loops_any rest x.name) off) ∙ e) dep s in
          had_as (kind_any rest l) (kind_any (branch b rest) l)
          (unless (has b l) (kind_of b l) (kind_any rest l) (apart l (kind_has_any rest l h.kind h.found'))) h
    ]
      where
        apart : (q : ℕ) → has_any rest q ≡ true → has b q ≡ false
        apart q h = elim (two (has b q)) [ inl t ↦ absurd (true≢false (sym h ∙ once.0 q t)) | inr g ↦ g ]

    had_of : (g : Graph) (i outer : List ℕ) → Once g → Split redo again g → Rule g i → loops_of g x.name ≡ outer ++ l ∷ inner
        → Depth outer i → starts i x.at ≡ true → Had (kind_of g l)
    had_of done i outer once split rule e dep s = absurd (none_split outer l inner e)
    had_of (add n after kind rest) i outer once split rule e dep s = elim (two (holds kind x.name)) [
      | inl hx ↦ elim (two (m.reclosed n || gate m after n i f)) [
        | inl goes ↦
            let e' = sym (when (holds kind x.name) (loops_in n kind x.name) (loops_of rest x.name) hx) ∙ e in
            elim (had_in kind n i outer once.2 split.2 once.0 (λ y w. here hx y w ∙ when (m.reclosed n || gate m after n i f)
            (look_in m kind n i f y) (skip m n kind i y) goes) e' dep s hx) [
              | inl own' ↦ had_as (Some kind) (kind_of (add n after kind rest) l)
                  (when (nat_eq n l) (Some kind) (cond (holds kind l) (kind_in kind l) (kind_of rest l))
                  (subst (λ (q : ℕ). nat_eq n q ≡ true) own'.0 (same_self n))) own'.1
              | inr h ↦
                  let hl = kind_has_in kind l h.kind h.found' in
                  had_as (kind_in kind l) (kind_of (add n after kind rest) l)
                  (unless (nat_eq n l) (Some kind) (cond (holds kind l) (kind_in kind l) (kind_of rest l)) (not_own l n kind once.0 hl)
                  ∙ when (holds kind l) (kind_in kind l) (kind_of rest l) hl) h
            ]
        | inr stays ↦
            absurd (not_skipped i outer dep (and_in (nat_eq n x.name || shows kind x.name) (same_at i x.at)
            (when_some ((nat_eq n x.name || shows kind x.name) && same_at i x.at) (Some m.skipped) r
            (sym (here hx x (and_of (nat_eq n x.name || holds kind x.name) (starts i x.at)
            (or_second (nat_eq n x.name) (holds kind x.name) hx) s)
            ∙ unless (m.reclosed n || gate m after n i f) (look_in m kind n i f x) (skip m n kind i x) stays)
            ∙ there))).1)
      ]
      | inr off ↦
          let e' = sym (unless (holds kind x.name) (loops_in n kind x.name) (loops_of rest x.name) off) ∙ e in
          let h = had_of rest i outer once.3 split.3 (λ y w. rule y (rest_within n after kind rest i y w)
          ∙ unless (is_in n kind i y) (first y) (look m rest i f y) (behind_first y w)) e' dep s in
          let pl = passed n kind rest once.1 l (kind_has rest l h.kind h.found') in
          had_as (kind_of rest l) (kind_of (add n after kind rest) l)
          (unless (nat_eq n l) (Some kind) (cond (holds kind l) (kind_in kind l) (kind_of rest l)) pl.0
          ∙ unless (holds kind l) (kind_in kind l) (kind_of rest l) pl.1) h
    ]
      where
        first : Address → Option Row
        first y = cond (m.pinned n) (m.old y) (cond (m.reclosed n || gate m after n i f) (look_in m kind n i f y) (skip m n kind i y))

        -- what isn't kept stands in nothing that is kept
        here : holds kind x.name ≡ true → (y : Address) → is_in n kind i y ≡ true
            → f y ≡ cond (m.reclosed n || gate m after n i f) (look_in m kind n i f y) (skip m n kind i y)
        here hx y w =
            rule y (in_within n after kind rest i y w)
            ∙ (when (is_in n kind i y) (first y) (look m rest i f y) w
            ∙ unless (m.pinned n) (m.old y) (cond (m.reclosed n || gate m after n i f) (look_in m kind n i f y) (skip m n kind i y))
            (pins n ∙ not_true (kept redo again n) (λ t. true≢false (sym (split.1 t x.name hx) ∙ new))))

        behind_first : (y : Address) → is_within rest i y ≡ true → is_in n kind i y ≡ false
        behind_first y w =
            let p = passed n kind rest once.1 y.name (and_in (has rest y.name) (starts i y.at) w).0 in
            ap (λ (b : Bool). (b || holds kind y.name) && starts i y.at) p.0 ∙ ap (λ (b : Bool). b && starts i y.at) p.1

-- a source that keeps nothing redoes all
mutual
  all_redone_in : (kind : Kind) (n : ℕ) → SplitIn (λ (q : ℕ). true) (λ (q : ℕ). false) kind n
  all_redone_in Leaf n = refl
  all_redone_in (Scope g) n = all_redone g
  all_redone_in (Choice bs) n = all_redone_any bs
  all_redone_in (Foreach pace g) n = (refl, λ q is. refl, all_redone g)
  all_redone_in (Until most g) n = (refl, λ q is. refl, all_redone g)

  all_redone_any : (bs : Branches) → SplitAny (λ (q : ℕ). true) (λ (q : ℕ). false) bs
  all_redone_any no_branch = tt
  all_redone_any (branch b rest) = (all_redone b, all_redone_any rest)

  pub all_redone : (g : Graph) → Split (λ (q : ℕ). true) (λ (q : ℕ). false) g
  all_redone done = tt
  all_redone (add n after kind rest) =
      (λ is q held. refl, λ is. absurd (true≢false (sym is)), all_redone_in kind n, all_redone rest)

-- THE LAW
pub new_turn : {Row Begun Decision Verdict : Type 0} (g : Graph) (m : Source Row Begun Decision Verdict) (redo again : ℕ → Bool)
    (f : Table Row) → Once g → IsKept g m redo again → Obeys m g f → (x : Address) (r : Row) → f x ≡ Some r
    → kept redo again x.name ≡ false → (l : ℕ) (outer at : List ℕ) (turn : ℕ) → IsInTurnOf g x l outer at turn
    → HadTurn g m f l at turn
new_turn g m redo again f once keeps rule x r there new l outer at turn of =
    let h = had_of m redo again keeps.pinned f x r there new l of.inner at turn of.behind of.indexes g [] outer once keeps.split rule
    of.loops (omega (arith, of.each_loop)) refl in
    record { kind = h.kind; is = h.found'; had = h.had }

-- where nothing is kept
pub had_turn : {Row Begun Decision Verdict : Type 0} (g : Graph) (m : Source Row Begun Decision Verdict) (f : Table Row) → Once g
    → IsFresh m
    → Obeys m g f → (x : Address) (r : Row) → f x ≡ Some r → (l : ℕ) (outer at : List ℕ) (turn : ℕ) → IsInTurnOf g x l outer at turn
    → HadTurn g m f l at turn
had_turn g m f once own rule x r there l outer at turn of =
    new_turn g m (λ q. true) (λ q. false) f once (record { split = all_redone g; pinned = λ n. (own n).0 }) rule x r there refl l outer at
    turn of
