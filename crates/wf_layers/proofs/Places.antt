-- Where an action, and the branch that is taken, stand in a definition whose names stand once.
use Rattle.std.proofs.Common.{◌≡◌, ℕ, Bool, true, false, ◌||◌, cond, List, Some, ◌⊎◌, inl, inr, ⊎_elim, refl, sym, ap, ◌∙◌, subst, nat_eq, eq-eqb, eqb-true, true≢false}
use Rattle.std.proofs.lemmas.Option.{none-some}
use Rattle.wf_layers.specs.Definition.{Need, Kind, Branches, no_branch, branch, Graph, done, add, is_one, less_one, branch_at, holds, has, has_any, needs_in, needs_of, needs_any, kind_in, kind_of, kind_any}
use Rattle.wf_layers.specs.Address.{Address, Table, starts, is_in, is_within, owner, earlier_in, earlier_any, together, IsEarlier}
use Rattle.wf_layers.specs.Source.{Source, gate, GateLocal, SoundIn, SoundAny, Sound}
use Rattle.wf_layers.specs.Meaning.{skip}
use Rattle.wf_layers.specs.Rule.{look_in, look_any, look}
use Rattle.wf_layers.proofs.Basics.{two, and_in, and_of, apart, not_true, same_self, when, unless, any_within}
use Rattle.wf_layers.specs.Machine.{In, here, there}
use Rattle.wf_layers.proofs.Tables.{taken_has, taken_within}

-- WHERE AN ACTION STANDS

module _ {Row Begun Decision Verdict : Type 0} (m : Source Row Begun Decision Verdict) (low : ℕ → ℕ → Type 0)
    (Sees : Address → Address → Type 0) where
  -- names stand once, so what is looked up in the graph is found at the action
  pub record Stands (l : ℕ) (g : Graph) (n : ℕ) (after : List Need) (kind : Kind) : Type 0 where
    pub own_has : has g n ≡ true
    pub own_kind : kind_of g n ≡ Some kind
    pub own_needs : needs_of g n ≡ after
    pub inner_has : (q : ℕ) → holds kind q ≡ true → has g q ≡ true
    pub inner_kind : (q : ℕ) → holds kind q ≡ true → kind_of g q ≡ kind_in kind q
    pub inner_needs : (q : ℕ) → holds kind q ≡ true → needs_of g q ≡ needs_in kind q
    pub apart_own : holds kind n ≡ false
    pub gated : GateLocal m Sees after n l
    pub sound : SoundIn m Sees kind n l
    pub looked : (i : List ℕ) (f : Table Row) (y : Address) → is_in n kind i y ≡ true
        → look m g i f y ≡ cond (m.pinned n) (m.old y)
        (cond (m.reclosed n || gate m after n i f) (look_in m kind n i f y) (skip m n kind i y))
    pub owned : (i : List ℕ) (y : Address) → is_in n kind i y ≡ true → owner g i y ≡ Some n
    pub owns : (i : List ℕ) (y : Address) → owner g i y ≡ Some n → is_in n kind i y ≡ true
    pub joined : (i : List ℕ) (y z : Address) → is_in n kind i z ≡ true → together low g i y z
        → (is_in n kind i y ≡ true) × earlier_in low kind i y z
    pub joins : (i : List ℕ) (y z : Address) → is_in n kind i z ≡ true → is_in n kind i y ≡ true → earlier_in low kind i y z
        → together low g i y z

  pub within_of : (l : ℕ) (g : Graph) (n : ℕ) (after : List Need) (kind : Kind) → Stands l g n after kind → (i : List ℕ) (y : Address)
      → is_in n kind i y ≡ true → is_within g i y ≡ true
  within_of l g n after kind st i y e =
      let h = and_in (nat_eq n y.name || holds kind y.name) (starts i y.at) e in
      and_of (has g y.name) (starts i y.at)
      (⊎_elim (λ t. ap (λ q. has g q) (sym (eqb-true n y.name t)) ∙ st.own_has)
      (λ u. st.inner_has y.name (sym (ap (λ b. b || holds kind y.name) u) ∙ h.0)) (two (nat_eq n y.name)))
      h.1

  pub or_right : (a b : Bool) → b ≡ true → (a || b) ≡ true
  or_right true b e = refl
  or_right false b e = e

  pub or_none : (a b : Bool) → (a || b) ≡ false → (a ≡ false) × (b ≡ false)
  or_none true b e = absurd (true≢false e)
  or_none false b e = (refl, e)

  pub later : (l q : ℕ) (before : List Need) (other : Kind) (rest : Graph) (n : ℕ) (after : List Need) (kind : Kind)
      → Sound m Sees (add q before other rest) l → Stands l rest n after kind → Stands l (add q before other rest) n after kind
  later l q before other rest n after kind so st = record {
    own_has = or_right (nat_eq q n || holds other n) (has rest n) st.own_has;
    own_kind =
        unless (nat_eq q n) (Some other) _ (no_own n st.own_has) ∙ unless (holds other n) (kind_in other n) (kind_of rest n)
        (no_held n st.own_has) ∙ st.own_kind;
    own_needs =
        unless (nat_eq q n) before _ (no_own n st.own_has) ∙ unless (holds other n) (needs_in other n) (needs_of rest n)
        (no_held n st.own_has) ∙ st.own_needs;
    inner_has = λ x h. or_right (nat_eq q x || holds other x) (has rest x) (st.inner_has x h);
    inner_kind =
        λ x h. unless (nat_eq q x) (Some other) _ (no_own x (st.inner_has x h)) ∙ unless (holds other x) (kind_in other x) (kind_of rest x)
        (no_held x (st.inner_has x h)) ∙ st.inner_kind x h;
    inner_needs =
        λ x h. unless (nat_eq q x) before _ (no_own x (st.inner_has x h)) ∙ unless (holds other x) (needs_in other x) (needs_of rest x)
        (no_held x (st.inner_has x h)) ∙ st.inner_needs x h;
    apart_own = st.apart_own;
    gated = st.gated;
    sound = st.sound;
    looked = λ i f y e. unless (is_in q other i y) _ (look m rest i f y) (off i y e) ∙ st.looked i f y e;
    owned = λ i y e. unless (is_in q other i y) (Some q) (owner rest i y) (off i y e) ∙ st.owned i y e;
    owns = λ i y e.
        ⊎_elim
        (λ t. let s : Some q ≡ Some n = sym (when (is_in q other i y) (Some q) (owner rest i y) t) ∙ e in let s' : q ≡ n = cc in
        absurd (true≢false (sym (eq-eqb q n s') ∙ no_own n st.own_has)))
        (λ u. st.owns i y (sym (unless (is_in q other i y) (Some q) (owner rest i y) u) ∙ e))
        (two (is_in q other i y));
    joined = λ i y z e t. ⊎_elim (λ h. absurd (true≢false (sym h.0 ∙ off i z e))) (λ h. st.joined i y z e h.1) t;
    joins = λ i y z e h t. inr (off i z e, st.joins i y z e h t);
  }
    where
      none_here : (x : ℕ) → has rest x ≡ true → (nat_eq q x || holds other x) ≡ false
      none_here x h = not_true (nat_eq q x || holds other x) (λ t. true≢false (sym h ∙ so.2 x t))

      no_own : (x : ℕ) → has rest x ≡ true → nat_eq q x ≡ false
      no_own x h = (or_none (nat_eq q x) (holds other x) (none_here x h)).0

      no_held : (x : ℕ) → has rest x ≡ true → holds other x ≡ false
      no_held x h = (or_none (nat_eq q x) (holds other x) (none_here x h)).1

      off : (i : List ℕ) (y : Address) → is_in n kind i y ≡ true → is_in q other i y ≡ false
      off i y e =
          apart (nat_eq q y.name || holds other y.name) (has rest y.name) (starts i y.at) (λ t. so.2 y.name t)
          (within_of l rest n after kind st i y e)

  pub stands : (l : ℕ) (g : Graph) (n : ℕ) (after : List Need) (kind : Kind) → Sound m Sees g l → In g n after kind
      → Stands l g n after kind
  stands l _ n after kind so (here {rest = rest}) = record {
    own_has = ap (λ b. b || holds kind n || has rest n) (same_self n);
    own_kind = when (nat_eq n n) (Some kind) _ (same_self n);
    own_needs = when (nat_eq n n) after _ (same_self n);
    inner_has = λ q h. held_has q h;
    inner_kind = λ q h. unless (nat_eq n q) (Some kind) _ (other q h) ∙ when (holds kind q) (kind_in kind q) (kind_of rest q) h;
    inner_needs = λ q h. unless (nat_eq n q) after _ (other q h) ∙ when (holds kind q) (needs_in kind q) (needs_of rest q) h;
    apart_own = so.1;
    gated = so.0;
    sound = so.3;
    looked = λ i f y e. when (is_in n kind i y) _ (look m rest i f y) e;
    owned = λ i y e. when (is_in n kind i y) (Some n) (owner rest i y) e;
    owns =
        λ i y e. ⊎_elim (λ t. t) (λ u. absurd (not_later i y (sym (unless (is_in n kind i y) (Some n) (owner rest i y) u) ∙ e)))
        (two (is_in n kind i y));
    joined = λ i y z e t. ⊎_elim (λ h. (h.1, h.2)) (λ h. absurd (true≢false (sym e ∙ h.0))) t;
    joins = λ i y z e h t. inl (e, h, t);
  }
    where
      other : (q : ℕ) → holds kind q ≡ true → nat_eq n q ≡ false
      other q h = not_true (nat_eq n q) (λ t. true≢false (sym h ∙ ap (λ x. holds kind x) (sym (eqb-true n q t)) ∙ so.1))

      held_has : (q : ℕ) → holds kind q ≡ true → (nat_eq n q || holds kind q || has rest q) ≡ true
      held_has q h = ap (λ b. b || holds kind q || has rest q) (other q h) ∙ ap (λ b. b || has rest q) h

      -- the rest has no action of this name
      not_later : (i : List ℕ) (y : Address) → owner rest i y ≡ Some n → ⊥
      not_later i y e = go rest (so.2 n (ap (λ b. b || holds kind n) (same_self n))) e
        where
          go : (r : Graph) → has r n ≡ false → owner r i y ≡ Some n → ⊥
          go done e h = none-some n h
          go (add q before k r) e h =
              ⊎_elim
              (λ t. let s : Some q ≡ Some n = sym (when (is_in q k i y) (Some q) (owner r i y) t) ∙ h in let s' : q ≡ n = cc in
              true≢false (sym (ap (λ b. b || holds k n || has r n) (eq-eqb q n s')) ∙ e))
              (λ u. go r (or_last (nat_eq q n || holds k n) (has r n) e) (sym (unless (is_in q k i y) (Some q) (owner r i y) u) ∙ h))
              (two (is_in q k i y))
            where
              or_last : (a b : Bool) → (a || b) ≡ false → b ≡ false
              or_last true b e = absurd (true≢false e)
              or_last false b e = e
  stands l _ n after kind so (there {m = q} {before = before} {other = other} {rest = rest} st) =
      later l q before other rest n after kind so (stands l rest n after kind so.4 st)

  -- WHERE A BRANCH STANDS

  -- in the branches, one that isn't the first is apart from it
  rest_apart : (a b : Graph) (rest : Branches) (l c : ℕ) → SoundAny m Sees (branch a rest) l → branch_at rest c ≡ Some b
      → (i : List ℕ) (y : Address) → is_within b i y ≡ true → is_within a i y ≡ false
  rest_apart a b rest l c so e i y w =
      apart (has a y.name) (has_any rest y.name) (starts i y.at) (so.0 y.name) (taken_within b rest c e i y w)

  -- it is the first, or one of the others
  pub first_or : (a b : Graph) (rest : Branches) (c : ℕ) → branch_at (branch a rest) c ≡ Some b
      → ((is_one c ≡ true) × (a ≡ b)) ⊎ ((is_one c ≡ false) × (branch_at rest (less_one c) ≡ Some b))
  first_or a b rest c e =
      ⊎_elim
      (λ t. let same : Some a ≡ Some b = sym (when (is_one c) (Some a) _ t) ∙ e in let is : a ≡ b = cc in inl (t, is))
      (λ u. inr (u, sym (unless (is_one c) (Some a) _ u) ∙ e))
      (two (is_one c))

  pub taken_sound : (bs : Branches) (l c : ℕ) (b : Graph) → SoundAny m Sees bs l → branch_at bs c ≡ Some b → Sound m Sees b l
  taken_sound no_branch l c b so e = absurd (none-some b e)
  taken_sound (branch a rest) l c b so e =
      ⊎_elim (λ h. subst (λ g. Sound m Sees g l) h.1 so.1) (λ h. taken_sound rest l (less_one c) b so.2 h.1) (first_or a b rest c e)

  pub taken_kind : (bs : Branches) (l c : ℕ) (b : Graph) → SoundAny m Sees bs l → branch_at bs c ≡ Some b → (q : ℕ) → has b q ≡ true
      → kind_any bs q ≡ kind_of b q
  taken_kind no_branch l c b so e q h = absurd (none-some b e)
  taken_kind (branch a rest) l c b so e q h =
      ⊎_elim
      (λ r. let ha = subst (λ g. has g q ≡ true) (sym r.1) h in when (has a q) (kind_of a q) (kind_any rest q) ha
      ∙ ap (λ g. kind_of g q) r.1)
      (λ r. unless (has a q) (kind_of a q) (kind_any rest q)
      (not_true (has a q) (λ t. true≢false (sym (taken_has b rest (less_one c) r.1 q h) ∙ so.0 q t)))
      ∙ taken_kind rest l (less_one c) b so.2 r.1 q h)
      (first_or a b rest c e)

  pub taken_needs : (bs : Branches) (l c : ℕ) (b : Graph) → SoundAny m Sees bs l → branch_at bs c ≡ Some b → (q : ℕ) → has b q ≡ true
      → needs_any bs q ≡ needs_of b q
  taken_needs no_branch l c b so e q h = absurd (none-some b e)
  taken_needs (branch a rest) l c b so e q h =
      ⊎_elim
      (λ r. let ha = subst (λ g. has g q ≡ true) (sym r.1) h in when (has a q) (needs_of a q) (needs_any rest q) ha
      ∙ ap (λ g. needs_of g q) r.1)
      (λ r. unless (has a q) (needs_of a q) (needs_any rest q)
      (not_true (has a q) (λ t. true≢false (sym (taken_has b rest (less_one c) r.1 q h) ∙ so.0 q t)))
      ∙ taken_needs rest l (less_one c) b so.2 r.1 q h)
      (first_or a b rest c e)

  pub taken_look : (bs : Branches) (l c : ℕ) (b : Graph) → SoundAny m Sees bs l → branch_at bs c ≡ Some b
      → (i : List ℕ) (f : Table Row) (y : Address) → is_within b i y ≡ true → look_any m bs c i f y ≡ look m b i f y
  taken_look no_branch l c b so e i f y w = absurd (none-some b e)
  taken_look (branch a rest) l c b so e i f y w =
      ⊎_elim
      (λ r. when (is_within a i y) _ _ (subst (λ g. is_within g i y ≡ true) (sym r.1) w) ∙ when (is_one c) _ _ r.0
      ∙ ap (λ g. look m g i f y) r.1)
      (λ r. unless (is_within a i y) _ _ (rest_apart a b rest l (less_one c) so r.1 i y w)
      ∙ taken_look rest l (less_one c) b so.2 r.1 i f y w)
      (first_or a b rest c e)

  pub taken_joined : (bs : Branches) (l c : ℕ) (b : Graph) → SoundAny m Sees bs l → branch_at bs c ≡ Some b → (i : List ℕ) (y z : Address)
      → is_within b i z ≡ true → earlier_any low bs i y z → (is_within b i y ≡ true) × IsEarlier low b i y z
  taken_joined no_branch l c b so e i y z w t = absurd t
  taken_joined (branch a rest) l c b so e i y z w t =
      ⊎_elim
      (λ r. ⊎_elim
      (λ h. (subst (λ g. is_within g i y ≡ true) r.1 h.0, subst (λ g. IsEarlier low g i y z) r.1 h.2))
      (λ h. absurd (true≢false (sym (and_in (has a z.name) (starts i z.at) (subst (λ g. is_within g i z ≡ true) (sym r.1) w)).0
      ∙ not_true (has a z.name)
      (λ v. true≢false (sym (and_in (has_any rest z.name) (starts i z.at) (any_within low rest i y z h).1).0 ∙ so.0 z.name v)))))
      t)
      (λ r. ⊎_elim
      (λ h. absurd (true≢false (sym h.1 ∙ rest_apart a b rest l (less_one c) so r.1 i z w)))
      (λ h. taken_joined rest l (less_one c) b so.2 r.1 i y z w h)
      t)
      (first_or a b rest c e)

  pub taken_joins : (bs : Branches) (c : ℕ) (b : Graph) → branch_at bs c ≡ Some b → (i : List ℕ) (y z : Address) → is_within b i y ≡ true
      → is_within b i z ≡ true → IsEarlier low b i y z → earlier_any low bs i y z
  taken_joins no_branch c b e i y z v w t = absurd (none-some b e)
  taken_joins (branch a rest) c b e i y z v w t =
      ⊎_elim
      (λ r. inl (
        subst (λ g. is_within g i y ≡ true) (sym r.1) v,
        subst (λ g. is_within g i z ≡ true) (sym r.1) w,
        subst (λ g. IsEarlier low g i y z) (sym r.1) t,
      ))
      (λ r. inr (taken_joins rest (less_one c) b r.1 i y z v w t))
      (first_or a b rest c e)
