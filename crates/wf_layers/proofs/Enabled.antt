-- The table of events has the enabled events, and no others.
use Rattle.std.proofs.Common.{◌≡◌, ℕ, zero, suc, ◌<◌, ◌≤◌, Bool, true, false, ◌&&◌, ◌||◌, cond, List, [], ◌∷◌, ◌++◌, length, Option, Some, None, ◌⊎◌, inl, inr, ⊎_elim, refl, sym, ap, ap₂, ◌∙◌, subst, arith, true≢false, nat_eq, nat_lt, eqb-true}
use Rattle.std.proofs.lemmas.Option.{none-some}
use Rattle.wf_layers.specs.Definition.{Need, Pace, InTurn, AtMost, Kind, Leaf, Scope, Choice, Foreach, Until, Branches, no_branch, branch, Graph, done, add, holds, has, has_any, kind_of, is_one, less_one, branch_at, IsBefore}
use Rattle.wf_layers.specs.Address.{Address, address, Table, is_own, is_in, is_within, starts, same_at, SeenIn}
use Rattle.wf_layers.specs.Source.{Source, gate, Sound, SoundAny}
use Rattle.wf_layers.specs.Meaning.{meaning, only, sides}
use Rattle.wf_layers.specs.Rule.{Obeys}
use Rattle.wf_layers.specs.Machine.{Running, Opening, State, In, here, there, IsOpen, top, scope, chosen, turn, round, has_ended, is_ended, all_ended, unfinished, Event, Start, Try, End, Skip, Open, Begin, Test, Close, place_of, IsContainer, MayBegin, MayTest, MayClose, IsThere, IsDecided, Step}
use Rattle.wf_layers.specs.Laws.{IsInstance}
use Rattle.wf_layers.proofs.Basics.{inner_not_own, sides_at, two, and_in, and_of, apart, when, unless, same_self, same_self_at, starts_self, held_in}
use Rattle.wf_layers.proofs.Places.{stands, within_of}
use Rattle.wf_layers.proofs.Open.{open_sub, placed_in, kind_there, outer}
use Rattle.wf_layers.proofs.Tables.{taken_within}
use Rattle.wf_layers.proofs.Keeps.{Keeps}
use Rattle.wf_layers.proofs.Busy.{Busy}
use Rattle.wf_layers.proofs.Progress.{kept_state, sol as sol_of}
use Rattle.wf_layers.proofs.Facts.{busy_state}
use Rattle.wf_layers.specs.Enabled.{most_of, of_running, branch_ended, of_begun, of_tested, of_test, of_open, begins, of_idle, of_opening, of_busy, own_event, event_in, event_any, events}
use Rattle.wf_layers.specs.Laws.{Exact, EventsAreExact, RunsGrow}

lt_true : (a b : ℕ) → a < b → nat_lt a b ≡ true
lt_true a b lt = Prim.grind (arith, lt)

lt_false : (a b : ℕ) → b ≤ a → nat_lt a b ≡ false
lt_false a b le = Prim.grind (arith, le)

lt_of : (a b : ℕ) → nat_lt a b ≡ true → a < b
lt_of a b e = Prim.grind (arith, e)

ge_of : (a b : ℕ) → nat_lt a b ≡ false → b ≤ a
ge_of a b e = Prim.grind (arith, e)

-- all iterations have ended exactly where none is unfinished
none_unfinished : {A : Type 0} (g : Graph) (i : List ℕ) (t : Table A) (c : ℕ) → ((j : ℕ) → j < c → is_ended g (i ++ j ∷ []) t ≡ true)
    → unfinished g i t c ≡ 0
none_unfinished g i t zero all = refl
none_unfinished g i t (suc c) all =
    when (is_ended g (i ++ c ∷ []) t) _ _ (all c (omega arith)) ∙ none_unfinished g i t c (λ j lt. all j (omega (arith, lt)))

all_finished : {A : Type 0} (g : Graph) (i : List ℕ) (t : Table A) (c : ℕ) → unfinished g i t c ≡ 0 → (j : ℕ) → j < c
    → is_ended g (i ++ j ∷ []) t ≡ true
all_finished g i t zero none j lt = absurd (omega (arith, lt))
all_finished g i t (suc c) none j lt = go (is_ended g (i ++ c ∷ []) t) refl none (two (nat_eq j c)) (λ z. all_finished g i t c z j)
  where
    go : (b : Bool) → is_ended g (i ++ c ∷ []) t ≡ b → cond b (unfinished g i t c) (suc (unfinished g i t c)) ≡ 0
        → (nat_eq j c ≡ true) ⊎ (nat_eq j c ≡ false) → (unfinished g i t c ≡ 0 → j < c → is_ended g (i ++ j ∷ []) t ≡ true)
        → is_ended g (i ++ j ∷ []) t ≡ true
    go true e z (inl same) rest = subst (λ q. is_ended g (i ++ q ∷ []) t ≡ true) (sym (eqb-true j c same)) e
    go true e z (inr other) rest = rest z (Prim.grind (arith, other, lt))
    go false e z which rest = absurd (omega (arith, z))

-- in the branches, one that isn't the first is apart from it
first_or : (a b : Graph) (rest : Branches) (c : ℕ) → branch_at (branch a rest) c ≡ Some b
    → ((is_one c ≡ true) × (a ≡ b)) ⊎ ((is_one c ≡ false) × (branch_at rest (less_one c) ≡ Some b))
first_or a b rest c e =
    ⊎_elim
    (λ t. let same : Some a ≡ Some b = sym (when (is_one c) (Some a) _ t) ∙ e in let is : a ≡ b = cc in inl (t, is))
    (λ u. inr (u, sym (unless (is_one c) (Some a) _ u) ∙ e))
    (two (is_one c))

-- inside a container, not its own
inside : {A : Type 0} (kind : Kind) (n : ℕ) (i : List ℕ) (r u : A) (x : Address) → holds kind n ≡ false
    → (holds kind x.name && starts i x.at) ≡ true → cond (is_own n i x) r u ≡ u
inside kind n i r u x apart h = unless (is_own n i x) r u (inner_not_own n kind i x apart (and_in (holds kind x.name) (starts i x.at) h).0)

module _ {Row Begun Decision Verdict : Type 0} (m : Source Row Begun Decision Verdict) (d : Graph) (so : Sound m (SeenIn d) d 0)
    (f : Table Row) (sol : Obeys m d f) (s : State Row Begun Decision Verdict) where
  abbrev evs : Graph → List ℕ → Table Event
  evs g i x = events m s g i x

  -- what the table has of an action of the graph
  here_in : (l : ℕ) (g : Graph) (n : ℕ) (after : List Need) (kind : Kind) → Sound m (SeenIn d) g l → In g n after kind
      → (i : List ℕ) (x : Address) → is_in n kind i x ≡ true
      → evs g i x ≡ cond (is_own n i x) (own_event m s after kind n i) (event_in m s kind i (s.opens (address n i)) x)
  here_in l _ n after kind sg here i x h = when (is_in n kind i x) _ _ h
  here_in l _ n after kind sg (there {m = q} {other = other} {rest = rest} st) i x h =
      unless (is_in q other i x) _ _
      (apart (nat_eq q x.name || holds other x.name) (has rest x.name) (starts i x.at) (sg.2 x.name)
      (within_of m (IsBefore d) (SeenIn d) l rest n after kind (stands m (IsBefore d) (SeenIn d) l rest n after kind sg.4 st) i x h))
      ∙ here_in l rest n after kind sg.4 st i x h

  -- and of the taken branch
  taken_events : (bs : Branches) (l c : ℕ) (b : Graph) → SoundAny m (SeenIn d) bs l → branch_at bs c ≡ Some b → (i : List ℕ) (x : Address)
      → is_within b i x ≡ true → event_any m s bs c i x ≡ evs b i x
  taken_events no_branch l c b so e i x w = absurd (none-some b e)
  taken_events (branch a rest) l c b so e i x w =
      ⊎_elim
      (λ r. when (is_within a i x) _ _ (subst (λ g. is_within g i x ≡ true) (sym r.1) w) ∙ when (is_one c) _ _ r.0
      ∙ ap (λ g. evs g i x) r.1)
      (λ r. unless (is_within a i x) _ _
      (apart (has a x.name) (has_any rest x.name) (starts i x.at) (so.0 x.name) (taken_within b rest (less_one c) r.1 i x w))
      ∙ taken_events rest l (less_one c) b so.2 r.1 i x w)
      (first_or a b rest c e)

  -- an open graph's events are those of the table
  open_events : (g : Graph) (i : List ℕ) → IsOpen m.taken d s.opens g i → (x : Address) → is_within g i x ≡ true → evs d [] x ≡ evs g i x
  open_events _ _ top x w = refl
  open_events _ i (scope {g = g} {h = h} {n = n} {after = after} {w = w} og st e) x in_h =
      let sub = open_sub m d so f sol s.opens g i og in
      let pl = placed_in m d so f sol (length i) g n after (Scope h) sub st in
      let isin = held_in n (Scope h) i x in_h in
      open_events g i og x (within_of m (IsBefore d) (SeenIn d) (length i) g n after (Scope h) pl i x isin)
      ∙ here_in (length i) g n after (Scope h) sub.sound st i x isin
      ∙ ap (λ o. cond (is_own n i x) (own_event m s after (Scope h) n i) (event_in m s (Scope h) i o x)) e
      ∙ inside (Scope h) n i _ _ x pl.apart_own in_h
      ∙ when (is_within h i x) _ _ in_h
  open_events _ i (chosen {g = g} {b = b} {n = n} {after = after} {bs = bs} {w = w} og st e is) x in_b =
      let sub = open_sub m d so f sol s.opens g i og in
      let pl = placed_in m d so f sol (length i) g n after (Choice bs) sub st in
      let part = taken_within b bs (m.taken w.decision) is i x in_b in
      let isin = held_in n (Choice bs) i x part in
      open_events g i og x (within_of m (IsBefore d) (SeenIn d) (length i) g n after (Choice bs) pl i x isin)
      ∙ here_in (length i) g n after (Choice bs) sub.sound st i x isin
      ∙ ap (λ o. cond (is_own n i x) (own_event m s after (Choice bs) n i) (event_in m s (Choice bs) i o x)) e
      ∙ inside (Choice bs) n i _ _ x pl.apart_own part
      ∙ taken_events bs (length i) (m.taken w.decision) b pl.sound.2 is i x in_b
  open_events _ _ (turn {g = g} {h = h} {i = i} {n = n} {after = after} {pace = p} {w = w} j og st e lt) x in_h =
      let sub = open_sub m d so f sol s.opens g i og in
      let pl = placed_in m d so f sol (length i) g n after (Foreach p h) sub st in
      let part = outer m d so f sol h i j x in_h in
      let isin = held_in n (Foreach p h) i x part in
      open_events g i og x (within_of m (IsBefore d) (SeenIn d) (length i) g n after (Foreach p h) pl i x isin)
      ∙ here_in (length i) g n after (Foreach p h) sub.sound st i x isin
      ∙ ap (λ o. cond (is_own n i x) (own_event m s after (Foreach p h) n i) (event_in m s (Foreach p h) i o x)) e
      ∙ inside (Foreach p h) n i _ _ x pl.apart_own part
      ∙ sides_at w.next i (λ j t. evs h (i ++ j ∷ [])) (λ y. None) x j lt (and_in (has h x.name) (starts (i ++ j ∷ []) x.at) in_h).1
  open_events _ _ (round {g = g} {h = h} {i = i} {n = n} {most = most} {after = after} {w = w} j og st e lt) x in_h =
      let sub = open_sub m d so f sol s.opens g i og in
      let pl = placed_in m d so f sol (length i) g n after (Until most h) sub st in
      let part = outer m d so f sol h i j x in_h in
      let isin = held_in n (Until most h) i x part in
      open_events g i og x (within_of m (IsBefore d) (SeenIn d) (length i) g n after (Until most h) pl i x isin)
      ∙ here_in (length i) g n after (Until most h) sub.sound st i x isin
      ∙ ap (λ o. cond (is_own n i x) (own_event m s after (Until most h) n i) (event_in m s (Until most h) i o x)) e
      ∙ inside (Until most h) n i _ _ x pl.apart_own part
      ∙ sides_at w.next i (λ j t. evs h (i ++ j ∷ [])) (λ y. None) x j lt (and_in (has h x.name) (starts (i ++ j ∷ []) x.at) in_h).1

  self_own : (n : ℕ) (i : List ℕ) → is_own n i (address n i) ≡ true
  self_own n i = and_of (nat_eq n n) (same_at i i) (same_self n) (same_self_at i)

  self_in : (n : ℕ) (kind : Kind) (i : List ℕ) → is_in n kind i (address n i) ≡ true
  self_in n kind i = and_of (nat_eq n n || holds kind n) (starts i i) (ap (λ b. b || holds kind n) (same_self n)) (starts_self i)

  -- an action of an open graph has its own event in the table
  pub at_there : (n : ℕ) (i : List ℕ) (after : List Need) (kind : Kind) → IsThere d m s n i after kind
      → evs d [] (address n i) ≡ own_event m s after kind n i
  at_there n i after kind th =
      let sub = open_sub m d so f sol s.opens th.graph i th.is_open in
      let pl = placed_in m d so f sol (length i) th.graph n after kind sub th.is_in in
      open_events th.graph i th.is_open (address n i)
      (within_of m (IsBefore d) (SeenIn d) (length i) th.graph n after kind pl i (address n i) (self_in n kind i))
      ∙ here_in (length i) th.graph n after kind sub.sound th.is_in i (address n i) (self_in n kind i)
      ∙ when (is_own n i (address n i)) _ _ (self_own n i)

module _ {Row Begun Decision Verdict : Type 0} (m : Source Row Begun Decision Verdict) (d : Graph) (so : Sound m (SeenIn d) d 0)
    (f : Table Row) (sol : Obeys m d f) (s : State Row Begun Decision Verdict) (k : Keeps m d so f sol s) (b : Busy m d so f sol s) where
  own : List Need → Kind → ℕ → List ℕ → Option Event
  own after kind n i = own_event m s after kind n i

  -- an open container isn't a running leaf
  not_running : (n : ℕ) (i : List ℕ) (w : Opening Decision Verdict) → s.opens (address n i) ≡ Some w → s.running (address n i) ≡ None
  not_running n i w e = go (s.running (address n i)) refl
    where
      go : (z : Option (Running Begun)) → s.running (address n i) ≡ z → s.running (address n i) ≡ None
      go None h = h
      go (Some v) h = absurd (k.facts n i w Leaf e (k.held (address n i) v h).is_leaf).1

  kind_is : (n : ℕ) (i : List ℕ) (after : List Need) (kind : Kind) → IsThere d m s n i after kind → kind_of d n ≡ Some kind
  kind_is n i after kind th = (kind_there m d so f sol s.opens th.graph i n after kind th.is_open th.is_in).0

  container_begins : (kind : Kind) (n : ℕ) (i : List ℕ) → IsContainer kind → begins m s kind n i ≡ Open n i
  container_begins Leaf n i c = absurd c
  container_begins (Scope g) n i c = refl
  container_begins (Choice bs) n i c = refl
  container_begins (Foreach pace g) n i c = refl
  container_begins (Until most g) n i c = refl

  -- THE ENABLED EVENTS ARE LISTED

  open_own : (n : ℕ) (i : List ℕ) (after : List Need) (kind : Kind) (w : Opening Decision Verdict) → s.opens (address n i) ≡ Some w
      → own_event m s after kind n i ≡ of_open m s kind n i w
  open_own n i after kind w e = rw (b.no_row (address n i) (inr (w, e)), not_running n i w e, e)

  begin_own : (n : ℕ) (i : List ℕ) (kind : Kind) (w : Opening Decision Verdict) → s.opens (address n i) ≡ Some w → kind_of d n ≡ Some kind
      → MayBegin m kind i w s.rows → of_open m s kind n i w ≡ Some (Begin n i)
  begin_own n i Leaf w e q may = absurd may
  begin_own n i (Scope g) w e q may = absurd may
  begin_own n i (Choice bs) w e q may = absurd may
  begin_own n i (Foreach InTurn g) w e q may = rw (lt_true w.next (m.items w.decision) may.0, none_unfinished g i s.rows w.next may.1)
  begin_own n i (Foreach (AtMost most) g) w e q may =
      rw (lt_true w.next (m.items w.decision) may.0, lt_true (unfinished g i s.rows w.next) most may.1)
  begin_own n i (Until most g) w e q may = ⊎_elim first (λ z. rw (z.1, z.2, lt_true w.next most may.0, other)) may.1
    where
      other : nat_eq w.next most ≡ false
      other = Prim.grind (arith, may.0)

      first : w.next ≡ 0 → of_open m s (Until most g) n i w ≡ Some (Begin n i)
      first z = go w.test refl
        where
          go : (t : Option Verdict) → w.test ≡ t → of_test m s g most n i w.next t ≡ Some (Begin n i)
          go None h = rw (z, lt_true 0 most (omega (arith, may.0)))
          go (Some v) h = absurd (let y = ((k.facts n i w (Until most g) e q).1.2 v h).1 in omega (arith, y, z))

  test_own : (n : ℕ) (i : List ℕ) (kind : Kind) (w : Opening Decision Verdict) (j : ℕ) → MayTest m kind i w s.rows j
      → of_open m s kind n i w ≡ Some (Test n i)
  test_own n i Leaf w j may = absurd may
  test_own n i (Scope g) w j may = absurd may
  test_own n i (Choice bs) w j may = absurd may
  test_own n i (Foreach pace g) w j may = absurd may
  test_own n i (Until most g) w j may = rw (may.1, may.0, may.2)

  branch_over : (o : Option Graph) (i : List ℕ) → ((h : Graph) → o ≡ Some h → is_ended h i s.rows ≡ true) → branch_ended m s o i ≡ true
  branch_over None i all = refl
  branch_over (Some h) i all = all h refl

  close_own : (n : ℕ) (i : List ℕ) (kind : Kind) (w : Opening Decision Verdict) → MayClose m kind i w s.rows
      → of_open m s kind n i w ≡ Some (Close n i)
  close_own n i Leaf w may = absurd may
  close_own n i (Scope g) w may = rw may
  close_own n i (Choice bs) w may = rw (branch_over (branch_at bs (m.taken w.decision)) i may)
  close_own n i (Foreach pace g) w may =
      rw (lt_false w.next (m.items w.decision) (let z = may.0 in omega (arith, z)), none_unfinished g i s.rows w.next may.1)
  close_own n i (Until most g) w may =
      ap (of_test m s g most n i w.next) may.1 ∙ ⊎_elim (λ t. rw t) (λ t. rw (last t, or_true (m.ends may.0))) may.2
    where
      last : w.next ≡ most → nat_eq w.next most ≡ true
      last t = Prim.grind (arith, t)

      or_true : (p : Bool) → (p || true) ≡ true
      or_true true = refl
      or_true false = refl

  pub step_listed : (e : Event) (s' : State Row Begun Decision Verdict) → Step d m s e s' → events m s d [] (place_of e) ≡ Some e
  step_listed (Start n i) s' st =
      at_there m d so f sol s n i st.0 Leaf st.1.is_there ∙ rw (st.1.no_row, st.1.not_running, st.1.not_open, st.1.ended, st.2)
  step_listed (Skip n i) s' st =
      at_there m d so f sol s n i st.0 st.1 st.2.is_there ∙ rw (st.2.no_row, st.2.not_running, st.2.not_open, st.2.ended, st.3)
  step_listed (Open n i) s' st =
      at_there m d so f sol s n i st.0 st.1 st.3.is_there
      ∙ rw (st.3.no_row, st.3.not_running, st.3.not_open, st.3.ended, st.4, container_begins st.1 n i st.2)
  step_listed (Try n i) s' st =
      let th = b.there' (address n i) (inl (st.0, st.1)) in
      at_there m d so f sol s n i th.0 th.1 th.2
      ∙ rw (b.no_row (address n i) (inl (st.0, st.1)), st.1, lt_true st.0.tries (m.tries (address n i) st.0.begun) st.2)
  step_listed (End n i) s' st =
      let th = b.there' (address n i) (inl (st.0, st.1)) in
      at_there m d so f sol s n i th.0 th.1 th.2
      ∙ rw (
        b.no_row (address n i) (inl (st.0, st.1)),
        st.1,
        lt_false st.0.tries (m.tries (address n i) st.0.begun)
            (let z = st.2 in omega (arith, z)),
      )
  step_listed (Begin n i) s' st =
      at_there m d so f sol s n i st.0 st.1 st.3 ∙ open_own n i st.0 st.1 st.2 st.4
      ∙ begin_own n i st.1 st.2 st.4 (kind_is n i st.0 st.1 st.3) st.5
  step_listed (Test n i) s' st =
      at_there m d so f sol s n i st.0 st.1 st.4 ∙ open_own n i st.0 st.1 st.2 st.5 ∙ test_own n i st.1 st.2 st.3 st.6
  step_listed (Close n i) s' st =
      at_there m d so f sol s n i st.0 st.1 st.3 ∙ open_own n i st.0 st.1 st.2 st.4 ∙ close_own n i st.1 st.2 st.5

  -- AND NO OTHERS

  abbrev Listed : Address → Event → Type 0
  Listed x e = (x ≡ place_of e) × ((s' : State Row Begun Decision Verdict) × Step d m s e s')

  give : (x : Address) (e0 e : Event) → Listed x e0 → Some e0 ≡ Some e → Listed x e
  give x e0 e listed q = subst (Listed x) is listed
    where
      is : e0 ≡ e
      is = Prim.cc

  one_before : (a b : ℕ) → nat_lt a b ≡ false → nat_eq a b ≡ false → a ≤ b → ⊥
  one_before a b lt ne le = Prim.grind (arith, lt, ne, le)

  of_running_steps : (n : ℕ) (i : List ℕ) (w : Running Begun) (e : Event) → s.running (address n i) ≡ Some w
      → Some (of_running m s n i w) ≡ Some e → Listed (address n i) e
  of_running_steps n i w e h q = go (nat_lt w.tries (m.tries (address n i) w.begun)) refl q
    where
      go : (p : Bool) → nat_lt w.tries (m.tries (address n i) w.begun) ≡ p → Some (cond p (Try n i) (End n i)) ≡ Some e
          → Listed (address n i) e
      go true t q = give (address n i) (Try n i) e (refl, (_, (w, h, lt_of w.tries (m.tries (address n i) w.begun) t, refl))) q
      go false t q =
          let le = (k.held (address n i) w h).so_far in let ge = ge_of w.tries (m.tries (address n i) w.begun) t in
          give (address n i) (End n i) e (refl, (_, (w, h, omega (arith, le, ge), refl))) q

  begins_steps : (n : ℕ) (i : List ℕ) (after : List Need) (kind : Kind) (e : Event) → IsDecided d m s n i after kind
      → gate m after n i s.rows ≡ true → Some (begins m s kind n i) ≡ Some e → Listed (address n i) e
  begins_steps n i after Leaf e de g q = give (address n i) (Start n i) e (refl, (_, (after, de, g, refl))) q
  begins_steps n i after (Scope h) e de g q = give (address n i) (Open n i) e (refl, (_, (after, Scope h, tt, de, g, refl))) q
  begins_steps n i after (Choice bs) e de g q = give (address n i) (Open n i) e (refl, (_, (after, Choice bs, tt, de, g, refl))) q
  begins_steps n i after (Foreach pace h) e de g q = give (address n i) (Open n i) e (refl, (_, (after, Foreach pace h, tt, de, g, refl))) q
  begins_steps n i after (Until most h) e de g q = give (address n i) (Open n i) e (refl, (_, (after, Until most h, tt, de, g, refl))) q

  idle_steps : (n : ℕ) (i : List ℕ) (after : List Need) (kind : Kind) (e : Event) → IsThere d m s n i after kind
      → s.rows (address n i) ≡ None → s.running (address n i) ≡ None → s.opens (address n i) ≡ None → of_idle m s after kind n i ≡ Some e
      → Listed (address n i) e
  idle_steps n i after kind e th r u o q = go (all_ended after i s.rows) refl (gate m after n i s.rows) refl q
    where
      go : (p : Bool) → all_ended after i s.rows ≡ p → (t : Bool) → gate m after n i s.rows ≡ t
          → cond p (Some (cond t (begins m s kind n i) (Skip n i))) None ≡ Some e → Listed (address n i) e
      go false pe t te q = absurd (none-some e q)
      go true pe true te q =
          begins_steps n i after kind e (record { is_there = th; no_row = r; not_running = u; not_open = o; ended = pe }) te q
      go true pe false te q =
          give (address n i) (Skip n i) e
          (refl, (_, (after, kind, record { is_there = th; no_row = r; not_running = u; not_open = o; ended = pe }, te, refl))) q

  open_steps : (n : ℕ) (i : List ℕ) (after : List Need) (kind : Kind) (w : Opening Decision Verdict) (e : Event)
      → IsThere d m s n i after kind → s.opens (address n i) ≡ Some w → of_open m s kind n i w ≡ Some e → Listed (address n i) e
  open_steps n i after Leaf w e th h q = absurd (none-some e q)
  open_steps n i after (Scope g) w e th h q = go (is_ended g i s.rows) refl q
    where
      go : (p : Bool) → is_ended g i s.rows ≡ p → cond p (Some (Close n i)) None ≡ Some e → Listed (address n i) e
      go true t q = give (address n i) (Close n i) e (refl, (_, (after, Scope g, w, th, h, t, refl))) q
      go false t q = absurd (none-some e q)
  open_steps n i after (Choice bs) w e th h q = go (branch_at bs (m.taken w.decision)) refl q
    where
      over : (p : Bool) (o : Option Graph) → branch_at bs (m.taken w.decision) ≡ o → branch_ended m s o i ≡ p
          → cond p (Some (Close n i)) None ≡ Some e → Listed (address n i) e
      over true o is t q =
          give (address n i) (Close n i) e (refl, (_, (after, Choice bs, w, th, h, (λ c is'. all o c (sym is ∙ is') t), refl))) q
        where
          all : (o : Option Graph) (c : Graph) → o ≡ Some c → branch_ended m s o i ≡ true → is_ended c i s.rows ≡ true
          all None c z t = absurd (none-some c z)
          all (Some a) c z t = let same : a ≡ c = cc in subst (λ g. is_ended g i s.rows ≡ true) same t
      over false o is t q = absurd (none-some e q)

      go : (o : Option Graph) → branch_at bs (m.taken w.decision) ≡ o → cond (branch_ended m s o i) (Some (Close n i)) None ≡ Some e
          → Listed (address n i) e
      go o is q = over (branch_ended m s o i) o is refl q
  open_steps n i after (Foreach pace g) w e th h q = go (nat_lt w.next (m.items w.decision)) refl q
    where
      may : (p : Pace) → nat_lt (unfinished g i s.rows w.next) (most_of p) ≡ true → w.next < m.items w.decision
          → MayBegin m (Foreach p g) i w s.rows
      may InTurn t lt = (lt, all_finished g i s.rows w.next (let z = lt_of (unfinished g i s.rows w.next) 1 t in omega (arith, z)))
      may (AtMost most) t lt = (lt, lt_of (unfinished g i s.rows w.next) most t)

      begin : (p : Bool) → nat_lt (unfinished g i s.rows w.next) (most_of pace) ≡ p → w.next < m.items w.decision
          → cond p (Some (Begin n i)) None ≡ Some e → Listed (address n i) e
      begin true t lt q = give (address n i) (Begin n i) e (refl, (_, (after, Foreach pace g, w, th, h, may pace t lt, refl))) q
      begin false t lt q = absurd (none-some e q)

      close : (p : Bool) → nat_eq (unfinished g i s.rows w.next) 0 ≡ p → m.items w.decision ≤ w.next
          → cond p (Some (Close n i)) None ≡ Some e → Listed (address n i) e
      close true t le q =
          let most = (k.facts n i w (Foreach pace g) h (kind_is n i after (Foreach pace g) th)).1.1 in
          give (address n i) (Close n i) e (
            refl,
            (
              _,
              (
                after,
                Foreach pace g,
                w,
                th,
                h,
                (omega (arith, le, most), all_finished g i s.rows w.next (eqb-true (unfinished g i s.rows w.next) 0 t)),
                refl,
              ),
            ),
          ) q
      close false t le q = absurd (none-some e q)

      go : (p : Bool) → nat_lt w.next (m.items w.decision) ≡ p
          → cond p (cond (nat_lt (unfinished g i s.rows w.next) (most_of pace)) (Some (Begin n i)) None)
          (cond (nat_eq (unfinished g i s.rows w.next) 0) (Some (Close n i)) None) ≡ Some e → Listed (address n i) e
      go true t q = begin (nat_lt (unfinished g i s.rows w.next) (most_of pace)) refl (lt_of w.next (m.items w.decision) t) q
      go false t q = close (nat_eq (unfinished g i s.rows w.next) 0) refl (ge_of w.next (m.items w.decision) t) q
  open_steps n i after (Until most g) w e th h q = go w.test refl q
    where
      first : (c : ℕ) → w.next ≡ c → w.test ≡ None → of_begun m s g most n i c ≡ Some e → Listed (address n i) e
      first zero z t q = at (nat_lt 0 most) refl q
        where
          at : (p : Bool) → nat_lt 0 most ≡ p → cond p (Some (Begin n i)) None ≡ Some e → Listed (address n i) e
          at true lt q =
              give (address n i) (Begin n i) e
              (refl, (_, (after, Until most g, w, th, h, (let l = lt_of 0 most lt in omega (arith, l, z), inl z), refl))) q
          at false lt q = absurd (none-some e q)
      first (suc j) z t q = at (is_ended g (i ++ j ∷ []) s.rows) refl q
        where
          at : (p : Bool) → is_ended g (i ++ j ∷ []) s.rows ≡ p → cond p (Some (Test n i)) None ≡ Some e → Listed (address n i) e
          at true over q = give (address n i) (Test n i) e (refl, (_, (after, Until most g, w, j, th, h, (z, t, over), refl))) q
          at false over q = absurd (none-some e q)

      which : (p r : Bool) → (p || r) ≡ true → (p ≡ true) ⊎ (r ≡ true)
      which true r t = inl refl
      which false r t = inr t

      neither : (p r : Bool) → (p || r) ≡ false → (p ≡ false) × (r ≡ false)
      neither true r t = absurd (true≢false t)
      neither false r t = (refl, t)

      later : (v : Verdict) → w.test ≡ Some v → of_tested m s most n i w.next v ≡ Some e → Listed (address n i) e
      later v t q = at (m.ends v || nat_eq w.next most) refl (nat_lt w.next most) refl q
        where
          at : (p : Bool) → (m.ends v || nat_eq w.next most) ≡ p → (r : Bool) → nat_lt w.next most ≡ r
              → cond p (Some (Close n i)) (cond r (Some (Begin n i)) None) ≡ Some e → Listed (address n i) e
          at true pe r re q =
              give (address n i) (Close n i) e (
                refl,
                (
                  _,
                  (
                    after,
                    Until most g,
                    w,
                    th,
                    h,
                    (v, t, ⊎_elim (λ x. inl x) (λ x. inr (eqb-true w.next most x)) (which (m.ends v) (nat_eq w.next most) pe)),
                    refl,
                  ),
                ),
              ) q
          at false pe true re q =
              give (address n i) (Begin n i) e (
                refl,
                (
                  _,
                  (
                    after,
                    Until most g,
                    w,
                    th,
                    h,
                    (lt_of w.next most re, inr (v, t, (neither (m.ends v) (nat_eq w.next most) pe).0)),
                    refl,
                  ),
                ),
              ) q
          at false pe false re q = absurd (none-some e q)

      go : (t : Option Verdict) → w.test ≡ t → of_test m s g most n i w.next t ≡ Some e → Listed (address n i) e
      go None t q = first w.next refl t q
      go (Some v) t q = later v t q

  own_steps : (n : ℕ) (i : List ℕ) (after : List Need) (kind : Kind) (e : Event) → IsThere d m s n i after kind
      → own_event m s after kind n i ≡ Some e → Listed (address n i) e
  own_steps n i after kind e th q = at_row (s.rows (address n i)) refl q
    where
      at_open : (o : Option (Opening Decision Verdict)) → s.opens (address n i) ≡ o → s.rows (address n i) ≡ None
          → s.running (address n i) ≡ None → of_opening m s after kind n i o ≡ Some e → Listed (address n i) e
      at_open None o r u q = idle_steps n i after kind e th r u o q
      at_open (Some w) o r u q = open_steps n i after kind w e th o q

      at_running : (u : Option (Running Begun)) → s.running (address n i) ≡ u → s.rows (address n i) ≡ None
          → of_busy m s after kind n i u ≡ Some e → Listed (address n i) e
      at_running None u r q = at_open (s.opens (address n i)) refl r u q
      at_running (Some w) u r q = of_running_steps n i w e u q

      at_row : (r : Option Row) → s.rows (address n i) ≡ r
          → cond (has_ended r) None (of_busy m s after kind n i (s.running (address n i))) ≡ Some e → Listed (address n i) e
      at_row None r q = at_running (s.running (address n i)) refl r q
      at_row (Some x) r q = absurd (none-some e q)

  at_is : (i j : List ℕ) → same_at i j ≡ true → i ≡ j
  at_is [] [] e = refl
  at_is [] (b ∷ bs) e = absurd (true≢false (sym e))
  at_is (a ∷ as') [] e = absurd (true≢false (sym e))
  at_is (a ∷ as') (b ∷ bs) e = let h = and_in (nat_eq a b) (same_at as' bs) e in ap₂ (λ x xs. x ∷ xs) (eqb-true a b h.0) (at_is as' bs h.1)

  -- an address that is the action's
  own_is : (n : ℕ) (i : List ℕ) (x : Address) → is_own n i x ≡ true → x ≡ address n i
  own_is n i x e =
      let h = and_in (nat_eq n x.name) (same_at i x.at) e in
      ap₂ (λ a b. address a b) (sym (eqb-true n x.name h.0)) (sym (at_is i x.at h.1))

  abbrev Walks : Graph → Type 0
  Walks h = (i : List ℕ) → IsOpen m.taken d s.opens h i → (x : Address) (e : Event) → events m s h i x ≡ Some e → Listed x e

  only_some : (p : Bool) (o : Option Event) (e : Event) → only p o ≡ Some e → o ≡ Some e
  only_some true o e q = q
  only_some false o e q = absurd (none-some e q)

  sides_steps : (h : Graph) (i : List ℕ) (c : ℕ) (x : Address) (e : Event)
      → ((j : ℕ) → j < c → events m s h (i ++ j ∷ []) x ≡ Some e → Listed x e)
      → sides c i (λ j t. events m s h (i ++ j ∷ [])) (λ y. None) x ≡ Some e → Listed x e
  sides_steps h i zero x e walk q = absurd (none-some e q)
  sides_steps h i (suc c) x e walk q = go (starts (i ++ c ∷ []) x.at) q (λ z. sides_steps h i c x e (λ j lt. walk j (omega (arith, lt))) z)
    where
      go : (p : Bool) → cond p (events m s h (i ++ c ∷ []) x) (sides c i (λ j t. events m s h (i ++ j ∷ [])) (λ y. None) x) ≡ Some e
          → (sides c i (λ j t. events m s h (i ++ j ∷ [])) (λ y. None) x ≡ Some e → Listed x e) → Listed x e
      go true q rest = walk c (omega arith) q
      go false q rest = rest q

  abbrev Branched : Branches → Type 0
  Branched bs =
      (g : Graph) (i : List ℕ) (n : ℕ) (after : List Need) (all : Branches) (w : Opening Decision Verdict) (c : ℕ)
      → IsOpen m.taken d s.opens g i → In g n after (Choice all) → s.opens (address n i) ≡ Some w
      → ((h : Graph) → branch_at bs c ≡ Some h → branch_at all (m.taken w.decision) ≡ Some h) → (x : Address) (e : Event)
      → event_any m s bs c i x ≡ Some e → Listed x e

  abbrev Inner : Kind → Type 0
  Inner kind =
      (g : Graph) (i : List ℕ) (n : ℕ) (after : List Need) (o : Option (Opening Decision Verdict)) → IsOpen m.taken d s.opens g i
      → In g n after kind → s.opens (address n i) ≡ o → (x : Address) (e : Event) → event_in m s kind i o x ≡ Some e → Listed x e

  add_steps : (n : ℕ) (after : List Need) (kind : Kind) (rest : Graph) (i : List ℕ) (x : Address) (e : Event)
      → (is_own n i x ≡ true → own_event m s after kind n i ≡ Some e → Listed x e)
      → (event_in m s kind i (s.opens (address n i)) x ≡ Some e → Listed x e) → (events m s rest i x ≡ Some e → Listed x e)
      → events m s (add n after kind rest) i x ≡ Some e → Listed x e
  add_steps n after kind rest i x e own inner later q = go (is_in n kind i x) (is_own n i x) refl q
    where
      go : (p r : Bool) → is_own n i x ≡ r → cond p (cond r (own_event m s after kind n i) (event_in m s kind i (s.opens (address n i)) x))
          (events m s rest i x) ≡ Some e → Listed x e
      go true true is q = own is q
      go true false is q = inner q
      go false r is q = later q

  none_taken : (bs : Branches) (i : List ℕ) (x : Address) → event_any m s bs 0 i x ≡ None
  none_taken no_branch i x = refl
  none_taken (branch b rest) i x = go (is_within b i x) (none_taken rest i x)
    where
      go : (p : Bool) → event_any m s rest 0 i x ≡ None → cond p None (event_any m s rest 0 i x) ≡ None
      go true z = refl
      go false z = z

  one_left : (c : ℕ) → is_one c ≡ true → less_one c ≡ 0
  one_left zero e = refl
  one_left (suc zero) e = refl
  one_left (suc (suc c)) e = absurd (true≢false (sym e))

  branch_steps : (b : Graph) (rest : Branches) (c : ℕ) (i : List ℕ) (x : Address) (e : Event)
      → (is_one c ≡ true → events m s b i x ≡ Some e → Listed x e)
      → (is_one c ≡ false → event_any m s rest (less_one c) i x ≡ Some e → Listed x e)
      → event_any m s (branch b rest) c i x ≡ Some e → Listed x e
  branch_steps b rest c i x e first later q = go (is_within b i x) (is_one c) refl q
    where
      go : (p r : Bool) → is_one c ≡ r → cond p (only r (events m s b i x)) (event_any m s rest (less_one c) i x) ≡ Some e → Listed x e
      go true true is q = first is q
      go true false is q = absurd (none-some e q)
      go false true is q = absurd (none-some e (sym (none_taken rest i x) ∙ ap (λ z. event_any m s rest z i x) (sym (one_left c is)) ∙ q))
      go false false is q = later is q

  mutual
    inner_steps : (kind : Kind) → Inner kind
    inner_steps Leaf g i n after o op st h x e q = absurd (none-some e q)
    inner_steps (Scope b) g i n after None op st h x e q = absurd (none-some e q)
    inner_steps (Scope b) g i n after (Some w) op st h x e q =
        walk b b (λ n after kind st. st) i (scope op st h) x e (only_some (is_within b i x) (events m s b i x) e q)
    inner_steps (Choice bs) g i n after None op st h x e q = absurd (none-some e q)
    inner_steps (Choice bs) g i n after (Some w) op st h x e q =
        any_steps bs g i n after bs w (m.taken w.decision) op st h (λ b is. is) x e q
    inner_steps (Foreach pace b) g i n after None op st h x e q = absurd (none-some e q)
    inner_steps (Foreach pace b) g i n after (Some w) op st h x e q =
        sides_steps b i w.next x e (λ j lt z. walk b b (λ n after kind st. st) (i ++ j ∷ []) (turn j op st h lt) x e z) q
    inner_steps (Until most b) g i n after None op st h x e q = absurd (none-some e q)
    inner_steps (Until most b) g i n after (Some w) op st h x e q =
        sides_steps b i w.next x e (λ j lt z. walk b b (λ n after kind st. st) (i ++ j ∷ []) (round j op st h lt) x e z) q

    any_steps : (bs : Branches) → Branched bs
    any_steps no_branch g i n after all w c op st h is x e q = absurd (none-some e q)
    any_steps (branch b rest) g i n after all w c op st h is x e q =
        branch_steps b rest c i x e
        (λ one z. walk b b (λ n after kind st. st) i
        (chosen op st h (is b (when (is_one c) (Some b) (branch_at rest (less_one c)) one))) x e z)
        (λ none z. any_steps rest g i n after all w (less_one c) op st h
        (λ a at. is a (unless (is_one c) (Some b) (branch_at rest (less_one c)) none ∙ at)) x e z) q

    -- h is what is left of the open graph g
    walk : (h g : Graph) → ((n : ℕ) (after : List Need) (kind : Kind) → In h n after kind → In g n after kind) → (i : List ℕ)
        → IsOpen m.taken d s.opens g i → (x : Address) (e : Event) → events m s h i x ≡ Some e → Listed x e
    walk done g emb i op x e q = absurd (none-some e q)
    walk (add n after kind rest) g emb i op x e q =
        add_steps n after kind rest i x e
        (λ own z. subst (λ y. Listed y e) (sym (own_is n i x own))
        (own_steps n i after kind e (record { graph = g; is_open = op; is_in = emb n after kind here }) z))
        (λ z. inner_steps kind g i n after (s.opens (address n i)) op (emb n after kind here) refl x e z)
        (λ z. walk rest g (λ n' after' kind' st. emb n' after' kind' (there st)) i op x e z) q

  pub listed_steps : (x : Address) (e : Event) → events m s d [] x ≡ Some e → Listed x e
  listed_steps x e q = walk d d (λ n after kind st. st) [] top x e q

  pub exact : Exact d m s
  exact = record { each = step_listed; only = listed_steps }

module _ {Row Begun Decision Verdict : Type 0} (d : Graph) (m : Source Row Begun Decision Verdict) (depth : ℕ → ℕ)
    (is : IsInstance d m depth) where
  -- in each reached state the table is exact
  pub events_are_exact : EventsAreExact d m
  events_are_exact es s r =
      exact m d is.local (meaning m depth d) (sol_of d m depth is) s (kept_state d m depth is es s r) (busy_state d m depth is es s r)

module _ {Row Begun Decision Verdict : Type 0} (d : Graph) (m : Source Row Begun Decision Verdict) where
  pub runs_grow : RunsGrow d m
  runs_grow s mid s' [] e r st = (s', subst (λ z. Step d m z e s') r st, refl)
  runs_grow s mid s' (x ∷ es) e r st = (r.0, r.1, runs_grow r.0 mid s' es e r.2 st)
