-- Rows stand exactly at the addresses that they call for.
use Rattle.std.proofs.Common.{◌≡◌, ℕ, zero, suc, ◌+◌, ◌<◌, ◌≤◌, Bool, true, false, ◌&&◌, ◌||◌, cond, List, [], ◌∷◌, ◌++◌, Option, Some, None, ⊎_elim, refl, sym, ap, ◌∙◌, subst, arith, nat_eq, eqb-true, true≢false, length}
use Rattle.std.proofs.lemmas.Bool.{eqb-false}
use Rattle.std.proofs.lemmas.Option.{none-some}
use Rattle.wf_layers.specs.Definition.{Need, Kind, Leaf, Scope, Choice, Foreach, Until, Branches, no_branch, branch, Graph, done, add, is_one, less_one, branch_at, holds, has, shows, plain, plain_any, needs_of, kind_of, IsBefore}
use Rattle.wf_layers.specs.Address.{Address, address, Table, same_at, starts, is_own, is_in, is_within, is_among, SeenIn}
use Rattle.wf_layers.specs.Source.{Source, gate, SoundAny, Sound}
use Rattle.wf_layers.specs.Meaning.{only, sides, rounds, skip}
use Rattle.wf_layers.specs.Rule.{look_in, look, Obeys}
use Rattle.wf_layers.proofs.Basics.{two, and_in, and_of, same_self_at, starts_self, when, unless, held_in, some_turn, sides_out, sides_at}
use Rattle.wf_layers.specs.Machine.{Opening, In, here, there, IsOpen, top, scope, chosen, turn, round, has_ended, in_others, skip_others}
use Rattle.wf_layers.proofs.Tables.{same_at_is, own_is, skip_in, skip_all_in, shows_holds, any_plain, plain_has}
use Rattle.wf_layers.proofs.Places.{within_of, or_right, taken_look}
use Rattle.wf_layers.specs.Called.{entry, entries, IsCalled, runs, in_skipped, not_taken}
use Rattle.wf_layers.specs.Facts.{OpenFact}
use Rattle.wf_layers.specs.Laws.{IsFresh}
use Rattle.wf_layers.proofs.Others.{others_among, look_others, others_or}
use Rattle.wf_layers.proofs.Open.{OpenFacts, Placed, open_sub, placed_in, kind_there, obey_in, inner_rule, follows}
use Rattle.wf_layers.proofs.Events.{own_row}

-- COUNTS

rounds_at_most : (m j : ℕ) (p : ℕ → Bool) → rounds m j p ≤ j + m
rounds_at_most zero j p = omega arith
rounds_at_most (suc m) j p =
    ⊎_elim
    (λ t. let e = when (p j) (suc j) (rounds m (suc j) p) t in omega (arith, e))
    (λ f. let e = unless (p j) (suc j) (rounds m (suc j) p) f in let h = rounds_at_most m (suc j) p in omega (arith, e, h))
    (two (p j))

-- no iteration but the last ends an Until
rounds_go_on : (m k j : ℕ) (p : ℕ → Bool) → k ≤ j → suc j < rounds m k p → p j ≡ false
rounds_go_on zero k j p le lt = absurd (omega arith)
rounds_go_on (suc m) k j p le lt =
    ⊎_elim
    (λ t. let e = when (p k) (suc k) (rounds m (suc k) p) t in absurd (omega (arith, e)))
    (λ f. ⊎_elim
    (λ same. ap p (sym (eqb-true k j same)) ∙ f)
    (λ ne. let e = unless (p k) (suc k) (rounds m (suc k) p) f in
    rounds_go_on m (suc k) j p (omega (arith, eqb-false k j ne)) (omega (arith, e)))
    (two (nat_eq k j)))
    (two (p k))

when_some : {A : Type 0} (b : Bool) (u : Option A) (w : A) → cond b u None ≡ Some w → (b ≡ true) × (u ≡ Some w)
when_some true u w e = (refl, e)
when_some false u w e = absurd (none-some w e)

some_is : {A : Type 0} {u v : A} → Some u ≡ Some v → u ≡ v
some_is e = cc (e)

module _ {Row Begun Decision Verdict : Type 0} (m : Source Row Begun Decision Verdict) (Sees : Address → Address → Type 0) where
  -- in a branch that isn't taken, an action that is in no loop of it has a Skipped row
  others_have : (bs : Branches) (l c : ℕ) → SoundAny m Sees bs l → (i : List ℕ) (q : ℕ) → in_others bs c i (address q i) ≡ true
      → plain_any bs q ≡ true → m.pinned q ≡ false → skip_others m bs c i (address q i) ≡ Some m.skipped
  others_have no_branch l c so i q e h free = absurd (true≢false (sym e))
  others_have (branch b rest) l c so i q e h free =
      ⊎_elim
      (λ w. when (is_within b i (address q i)) _ _ w
      ∙ ⊎_elim (λ t. absurd (true≢false (sym (sym (when (is_within b i (address q i)) _ _ w ∙ when (is_one c) false true t) ∙ e))))
      (λ u. unless (is_one c) None _ u) (two (is_one c))
      ∙ unless (m.pinned q) (m.old (address q i)) _ free ∙ when (plain b q && same_at i i) (Some m.skipped) None
      (and_of (plain b q) (same_at i i) (here' (and_in (has b q) (starts i i) w).0) (same_self_at i)))
      (λ w. unless (is_within b i (address q i)) _ _ w
      ∙ others_have rest l (less_one c) so.2 i q (sym (unless (is_within b i (address q i)) _ _ w) ∙ e) (there' w) free)
      (two (is_within b i (address q i)))
    where
      here' : has b q ≡ true → plain b q ≡ true
      here' hq =
          ⊎_elim (λ t. t) (λ u. absurd (true≢false (sym (any_plain rest q (sym (ap (λ x. x || plain_any rest q) u) ∙ h)) ∙ so.0 q hq)))
          (two (plain b q))

      there' : is_within b i (address q i) ≡ false → plain_any rest q ≡ true
      there' w =
          ⊎_elim
          (λ t. absurd (true≢false (sym (and_of (has b q) (starts i i) (plain_has b q t) (starts_self i)) ∙ w)))
          (λ u. sym (ap (λ x. x || plain_any rest q) u) ∙ h)
          (two (plain b q))

  -- and no other has one
  pub others_only : (bs : Branches) (c : ℕ) (i : List ℕ) (x : Address) (r : Row) → m.pinned x.name ≡ false → skip_others m bs c i x ≡ Some r
      → (plain_any bs x.name ≡ true) × (same_at i x.at ≡ true)
  others_only no_branch c i x r free e = absurd (none-some r e)
  others_only (branch b rest) c i x r free e =
      ⊎_elim
      (λ w. ⊎_elim
      (λ t. absurd (none-some r (sym (when (is_within b i x) _ _ w ∙ when (is_one c) None _ t) ∙ e)))
      (λ u. let v = skip_all_in m b i x r free (sym (when (is_within b i x) _ _ w ∙ unless (is_one c) None _ u) ∙ e) in
      (ap (λ p. p || plain_any rest x.name) v.0, v.1))
      (two (is_one c)))
      (λ w. let v = others_only rest (less_one c) i x r free (sym (unless (is_within b i x) _ _ w) ∙ e) in
      (or_right m (λ a b. Unit {0}) Sees (plain b x.name) (plain_any rest x.name) v.0, v.1))
      (two (is_within b i x))

module _ {Row Begun Decision Verdict : Type 0} (m : Source Row Begun Decision Verdict) (d : Graph) (so : Sound m (SeenIn d) d 0)
    (f : Table Row) (sol : Obeys m d f) (own : IsFresh m) where
  -- THE CONTAINERS THAT RUN

  entry_fact : (kind : Kind) (n : ℕ) (i : List ℕ) (w : Opening Decision Verdict) → entry m (Some kind) (address n i) f ≡ Some w
      → OpenFact m f f kind n i w
  entry_fact Leaf n i w e = absurd (none-some w e)
  entry_fact (Scope g) n i w e = subst (λ z. OpenFact m f f (Scope g) n i z) (some_is e) refl
  entry_fact (Choice bs) n i w e = subst (λ z. OpenFact m f f (Choice bs) n i z) (some_is e) (refl, λ y h. refl)
  entry_fact (Foreach pace g) n i w e =
      subst (λ z. OpenFact m f f (Foreach pace g) n i z) (some_is e) (refl, omega arith, λ q j lt y v. refl, (own n).1)
  entry_fact (Until most g) n i w e =
      subst (λ z. OpenFact m f f (Until most g) n i z) (some_is e) (
        let x = rounds_at_most most 0 (λ j. m.ends (m.test (address n i) j f)) in
            omega (arith, x),
        λ j lt. (rounds_go_on most 0 j (λ j. m.ends (m.test (address n i) j f)) (omega arith) lt, λ y v. refl),
        λ v q. absurd (none-some v q),
        (own n).1,
        refl,
      )

  entry_facts : OpenFacts m d so f sol f (entries m d f)
  entry_facts n i w kind e is =
      let r = when_some (gate m (needs_of d n) n i f) (entry m (kind_of d n) (address n i) f) w e in (
        record { free = (own n).0; passes = ap (λ b. b || gate m (needs_of d n) n i f) (own n).1 ∙ r.0 },
        entry_fact kind n i w (ap (λ o. entry m o (address n i) f) (sym is) ∙ r.1),
      )

  -- a container of an entered graph that runs is one of them
  entered_at : (g : Graph) (i : List ℕ) (n : ℕ) (after : List Need) (kind : Kind) → IsOpen m.taken d (entries m d f) g i → In g n after kind
      → gate m after n i f ≡ true → entries m d f (address n i) ≡ entry m (Some kind) (address n i) f
  entered_at g i n after kind og st pass =
      let k = kind_there m d so f sol (entries m d f) g i n after kind og st in
      when (gate m (needs_of d n) n i f) _ None (ap (λ a. gate m a n i f) k.1 ∙ pass) ∙ ap (λ o. entry m o (address n i) f) k.0

  -- CALLED FOR, SO A ROW

  pub called_has : (x : Address) → IsCalled m d f x → has_ended (f x) ≡ true
  called_has _ (runs {g = g} {i = i} {n = n} {after = after} {kind = kind} og st) = go (f (address n i)) refl
    where
      go : (o : Option Row) → f (address n i) ≡ o → has_ended (f (address n i)) ≡ true
      go None e = absurd (own_row m d so f sol f (entries m d f) entry_facts g i n after kind og st (own n).0 e)
      go (Some r) e = ap has_ended e
  called_has _ (in_skipped {g = g} {i = i} {n = n} {after = after} {kind = kind} q og st fails sh) =
      let pl = placed_in m d so f sol (length i) g n after kind (open_sub m d so f sol (entries m d f) g i og) st in
      let names = or_right m (IsBefore d) (SeenIn d) (nat_eq n q) (shows kind q) sh in
      let inx = and_of (nat_eq n q || holds kind q) (starts i i)
      (or_right m (IsBefore d) (SeenIn d) (nat_eq n q) (holds kind q) (shows_holds kind q sh)) (starts_self i) in
      ap has_ended
      (follows m d so f sol f (entries m d f) entry_facts g i og (address q i)
      (within_of m (IsBefore d) (SeenIn d) (length i) g n after kind pl i (address q i) inx)
      ∙ pl.looked i f (address q i) inx ∙ unless (m.pinned n) _ _ (own n).0
      ∙ unless (m.reclosed n || gate m after n i f) _ _ (ap (λ b. b || gate m after n i f) (own n).1 ∙ fails)
      ∙ when ((nat_eq n q || shows kind q) && same_at i i) (Some m.skipped) None
      (and_of (nat_eq n q || shows kind q) (same_at i i) names (same_self_at i)))
  called_has _ (not_taken {g = g} {i = i} {n = n} {after = after} {bs = bs} q og st pass other sh) =
      let pl = placed_in m d so f sol (length i) g n after (Choice bs) (open_sub m d so f sol (entries m d f) g i og) st in
      let c = m.taken (m.decide (address n i) f) in
      let w = others_among bs c i (address q i) other in
      ap has_ended
      (obey_in m d so f sol g i n after (Choice bs) pl (follows m d so f sol f (entries m d f) entry_facts g i og)
      (record { free = (own n).0; passes = or_right m (IsBefore d) (SeenIn d) (m.reclosed n) (gate m after n i f) pass }) (address q i)
      (held_in n (Choice bs) i (address q i) w)
      ∙ inner_rule m d so f sol (Choice bs) n i _ _ (is_among bs i (address q i)) (address q i) pl.apart_own w w
      ∙ look_others m bs c i f (address q i) other
      ∙ others_have m (SeenIn d) bs (length i) c pl.sound.2 i q other sh (own q).0)

  -- A ROW, SO CALLED FOR

  abbrev GraphCalled : Graph → Type 0
  GraphCalled g =
      (i : List ℕ) → IsOpen m.taken d (entries m d f) g i → (x : Address) (r : Row) → is_within g i x ≡ true → look m g i f x ≡ Some r
      → IsCalled m d f x

  abbrev AnyCalled : Branches → Type 0
  AnyCalled bs = (c : ℕ) (b : Graph) → branch_at bs c ≡ Some b → GraphCalled b

  abbrev KindCalled : Kind → Type 0
  KindCalled kind =
      (g : Graph) (i : List ℕ) (n : ℕ) (after : List Need) → IsOpen m.taken d (entries m d f) g i → In g n after kind
      → gate m after n i f ≡ true → (x : Address) (r : Row) → look_in m kind n i f x ≡ Some r → IsCalled m d f x

  -- the action's own address, or one inside
  own_or : (g : Graph) (i : List ℕ) (n : ℕ) (after : List Need) (kind : Kind) (x : Address) (r : Row) (u v : Option Row) (p : Bool)
      → IsOpen m.taken d (entries m d f) g i → In g n after kind → (p ≡ true → v ≡ Some r → IsCalled m d f x)
      → cond (is_own n i x) u (only p v) ≡ Some r → IsCalled m d f x
  own_or g i n after kind x r u v p og st inner e =
      ⊎_elim
      (λ t. subst (λ (z : Address). IsCalled m d f z) (own_is n i x t) (runs og st))
      (λ o. let h = when_some p v r (sym (unless (is_own n i x) u _ o) ∙ e) in inner h.0 h.1)
      (two (is_own n i x))

  loop_called : (h : Graph) (kind : Kind) (c : ℕ) → GraphCalled h → (i : List ℕ)
      → ((j : ℕ) → j < c → IsOpen m.taken d (entries m d f) h (i ++ j ∷ [])) → (x : Address) (r : Row) → is_within h i x ≡ true
      → sides c i (λ j t. look m h (i ++ j ∷ []) f) (λ y. None) x ≡ Some r → IsCalled m d f x
  loop_called h kind c called i opens x r w e =
      ⊎_elim
      (λ q. called (i ++ q.0 ∷ []) (opens q.0 q.1) x r
      (and_of (has h x.name) (starts (i ++ q.0 ∷ []) x.at) (and_in (has h x.name) (starts i x.at) w).0 q.2)
      (sym (sides_at c i (λ j t. look m h (i ++ j ∷ []) f) (λ y. None) x q.0 q.1 q.2) ∙ e))
      (λ q. absurd (none-some r (sym (sides_out c i (λ j t. look m h (i ++ j ∷ []) f) (λ y. None) x q) ∙ e)))
      (some_turn c i x.at)

  choice_called : (bs : Branches) → AnyCalled bs → KindCalled (Choice bs)
  choice_called bs called g i n after og st pass x r e =
      own_or g i n after (Choice bs) x r _ _ (is_among bs i x) og st
      (λ w v. ⊎_elim
      (λ other. let h = others_only m (SeenIn d) bs c i x r (own x.name).0 (sym (look_others m bs c i f x other) ∙ v) in
      let at : address x.name i ≡ x = ap (λ a. address x.name a) (same_at_is i x.at h.1) in
      subst (λ (z : Address). IsCalled m d f z) at
      (not_taken x.name og st pass (subst (λ (z : Address). in_others bs c i z ≡ true) (sym at) other) h.0))
      (λ t. called c t.0 t.1 i (chosen og st (entered_at g i n after (Choice bs) og st pass) t.1) x r t.2
      (sym (taken_look m (IsBefore d) (SeenIn d) bs (length i) c t.0 pl.sound.2 t.1 i f x t.2) ∙ v))
      (others_or bs c i x w))
      e
    where
      c : ℕ
      c = m.taken (m.decide (address n i) f)

      pl : Placed m d so f sol (length i) g n after (Choice bs)
      pl = placed_in m d so f sol (length i) g n after (Choice bs) (open_sub m d so f sol (entries m d f) g i og) st

  skipped_called : (w : Graph) (i : List ℕ) (n : ℕ) (after : List Need) (kind : Kind) → IsOpen m.taken d (entries m d f) w i
      → In w n after kind → gate m after n i f ≡ false → (x : Address) (r : Row) → skip m n kind i x ≡ Some r → IsCalled m d f x
  skipped_called w i n after kind og st fails x r e =
      let h = skip_in m n kind i x r e in
      ⊎_elim
      (λ t. subst (λ (z : Address). IsCalled m d f z) (own_is n i x (and_of (nat_eq n x.name) (same_at i x.at) t h.1)) (runs og st))
      (λ u. subst (λ (z : Address). IsCalled m d f z) (ap (λ a. address x.name a) (same_at_is i x.at h.1))
      (in_skipped x.name og st fails (sym (ap (λ b. b || shows kind x.name) u) ∙ h.0)))
      (two (nat_eq n x.name))

  mutual
    kind_called : (kind : Kind) → KindCalled kind
    kind_called Leaf g i n after og st pass x r e =
        let h = when_some (is_own n i x) _ r e in subst (λ (z : Address). IsCalled m d f z) (own_is n i x h.0) (runs og st)
    kind_called (Scope h) g i n after og st pass x r e =
        own_or g i n after (Scope h) x r _ _ (is_within h i x) og st
        (λ w v. walk_called h h i (scope og st (entered_at g i n after (Scope h) og st pass)) (λ q a k z. z) x r v) e
    kind_called (Choice bs) g i n after og st pass x r e = choice_called bs (any_called bs) g i n after og st pass x r e
    kind_called (Foreach pace h) g i n after og st pass x r e =
        own_or g i n after (Foreach pace h) x r _ _ (is_within h i x) og st
        (λ w v. loop_called h (Foreach pace h) (m.items (m.decide (address n i) f))
        (λ l ol y q wy z. walk_called h h l ol (λ q a k z. z) y q z) i
        (λ j lt. turn j og st (entered_at g i n after (Foreach pace h) og st pass) lt) x r w v) e
    kind_called (Until most h) g i n after og st pass x r e =
        own_or g i n after (Until most h) x r _ _ (is_within h i x) og st
        (λ w v. loop_called h (Until most h) (rounds most 0 (λ j. m.ends (m.test (address n i) j f)))
        (λ l ol y q wy z. walk_called h h l ol (λ q a k z. z) y q z) i
        (λ j lt. round j og st (entered_at g i n after (Until most h) og st pass) lt) x r w v) e

    any_called : (bs : Branches) → AnyCalled bs
    any_called no_branch c b e = absurd (none-some b e)
    any_called (branch a rest) c b e =
        ⊎_elim
        (λ t. let same : Some a ≡ Some b = sym (when (is_one c) (Some a) _ t) ∙ e in let is : a ≡ b = cc in
        subst GraphCalled is (λ l ol y q wy z. walk_called a a l ol (λ q a k z. z) y q z))
        (λ u. any_called rest (less_one c) b (sym (unless (is_one c) (Some a) _ u) ∙ e))
        (two (is_one c))

    walk_called : (g w : Graph) (i : List ℕ) → IsOpen m.taken d (entries m d f) w i
        → ((n : ℕ) (after : List Need) (kind : Kind) → In g n after kind → In w n after kind) → (x : Address) (r : Row)
        → look m g i f x ≡ Some r → IsCalled m d f x
    walk_called done w i og up x r e = absurd (none-some r e)
    walk_called (add n after kind rest) w i og up x r e =
        ⊎_elim
        (λ t.
        let v = sym (when (is_in n kind i x) _ (look m rest i f x) t ∙ unless (m.pinned n) _ _ (own n).0) ∙ e in
        ⊎_elim
        (λ pass. kind_called kind w i n after og (up n after kind here) pass x r
        (sym (when (m.reclosed n || gate m after n i f) _ _ (ap (λ b. b || gate m after n i f) (own n).1 ∙ pass)) ∙ v))
        (λ fails. skipped_called w i n after kind og (up n after kind here) fails x r
        (sym (unless (m.reclosed n || gate m after n i f) _ _ (ap (λ b. b || gate m after n i f) (own n).1 ∙ fails)) ∙ v))
        (two (gate m after n i f)))
        (λ u. walk_called rest w i og (λ q a k st. up q a k (there st)) x r (sym (unless (is_in n kind i x) _ (look m rest i f x) u) ∙ e))
        (two (is_in n kind i x))

  graph_called : (g : Graph) → GraphCalled g
  graph_called g i og x r w e = walk_called g g i og (λ n after kind st. st) x r e

  pub row_called : (x : Address) (r : Row) → is_within d [] x ≡ true → f x ≡ Some r → IsCalled m d f x
  row_called x r w e = graph_called d [] top x r w (sym (sol x w) ∙ e)
