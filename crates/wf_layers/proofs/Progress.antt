-- Where nothing is enabled, everything has ended; and the laws of runs from a fresh state.
use Rattle.std.proofs.Common.{◌≡◌, ℕ, zero, suc, ◌<◌, Bool, true, false, ◌||◌, List, [], ◌∷◌, ◌++◌, Option, Some, None, inl, inr, ⊎_elim, refl, sym, ap, ◌∙◌, subst, arith, nat_eq, eqb-true, true≢false, nat_lt, ltb-true, ltb-false}
use Rattle.std.proofs.lemmas.Option.{none-some}
use Rattle.wf_layers.specs.Definition.{Need, Names, Pace, InTurn, AtMost, Kind, Leaf, Scope, Choice, Foreach, Until, Branches, no_branch, branch, Graph, done, add, is_one, less_one, branch_at, has_own, IsDepth, ClosedIn, ClosedAny, Closed, Goes, TurnsIn, TurnsAny, Turns}
use Rattle.wf_layers.specs.Address.{address, Table, SeenIn}
use Rattle.wf_layers.specs.Source.{Source, gate, Sound}
use Rattle.wf_layers.specs.Meaning.{skip, meaning}
use Rattle.wf_layers.specs.Rule.{Obeys}
use Rattle.wf_layers.proofs.Basics.{two, and_of, when, unless}
use Rattle.wf_layers.specs.Machine.{Running, Opening, State, fresh, In, here, there, IsOpen, top, scope, chosen, turn, round, has_ended, is_ended, all_ended, unfinished, place, one, without, Event, Start, Try, End, Skip, Open, Begin, Test, Close, MayBegin, IsThere, IsDecided, Run, IsOver}
use Rattle.wf_layers.specs.Laws.{IsInstance, RowsAreTheMeanings, AllRowsAtTheEnd}
use Rattle.wf_layers.proofs.Meaning.{meaning_solves}
use Rattle.wf_layers.specs.Facts.{OpenFact}
use Rattle.wf_layers.proofs.Open.{kind_there, fact_of}
use Rattle.wf_layers.proofs.Keeps.{Keeps, IsClosed, SpecialOut}
use Rattle.wf_layers.proofs.Events.{ended_settled, fresh_keeps, run_keeps}

-- CLOSED DEFINITIONS

own_there : (w : Graph) (p : ℕ) → has_own w p ≡ true → (a : List Need) × (k : Kind) × In w p a k
own_there done p e = absurd (true≢false (sym e))
own_there (add n after kind rest) p e =
    ⊎_elim
    (λ t. subst (λ q. (a : List Need) × (k : Kind) × In (add n after kind rest) q a k) (eqb-true n p t) (after, kind, here))
    (λ u. let r = own_there rest p (sym (ap (λ b. b || has_own rest p) u) ∙ e) in (r.0, r.1, there r.2))
    (two (nat_eq n p))

pub in_closed : (g w : Graph) (n : ℕ) (after : List Need) (kind : Kind) → Closed g w → In g n after kind
    → ((p : ℕ) → Names after p → has_own w p ≡ true) × ClosedIn kind
in_closed _ w n after kind c here = (c.0, c.1)
in_closed _ w n after kind c (there {rest = rest} st) = in_closed rest w n after kind c.2 st

closed_taken : (bs : Branches) (c : ℕ) (b : Graph) → ClosedAny bs → branch_at bs c ≡ Some b → Closed b b
closed_taken no_branch c b h e = absurd (none-some b e)
closed_taken (branch a rest) c b h e =
    ⊎_elim
    (λ t. let same : Some a ≡ Some b = sym (when (is_one c) (Some a) _ t) ∙ e in let is : a ≡ b = cc in subst (λ g. Closed g g) is h.0)
    (λ u. closed_taken rest (less_one c) b h.1 (sym (unless (is_one c) (Some a) _ u) ∙ e))
    (two (is_one c))

module _ {Decision Verdict : Type 0} (taken : Decision → ℕ) where
  open_closed : (d : Graph) (o : Table (Opening Decision Verdict)) (g : Graph) (i : List ℕ) → Closed d d → IsOpen taken d o g i → Closed g g
  open_closed d o _ _ c top = c
  open_closed d o _ i c (scope {g = g} {h = h} {n = n} {after = after} og st e) =
      (in_closed g g n after (Scope h) (open_closed d o g i c og) st).1
  open_closed d o _ i c (chosen {g = g} {b = b} {n = n} {after = after} {bs = bs} {w = w} og st e is) =
      closed_taken bs (taken w.decision) b (in_closed g g n after (Choice bs) (open_closed d o g i c og) st).1 is
  open_closed d o _ _ c (turn {g = g} {h = h} {i = i} {n = n} {after = after} {pace = t} j og st e lt) =
      (in_closed g g n after (Foreach t h) (open_closed d o g i c og) st).1
  open_closed d o _ _ c (round {g = g} {h = h} {i = i} {n = n} {most = most} {after = after} j og st e lt) =
      (in_closed g g n after (Until most h) (open_closed d o g i c og) st).1

pub closed_is : {Row Begun Decision Verdict : Type 0} (m : Source Row Begun Decision Verdict) (d : Graph) (so : Sound m (SeenIn d) d 0)
    (f : Table Row) (sol : Obeys m d f) → Closed d d → IsClosed m d so f sol
closed_is m d so f sol c =
    λ o g i n after kind og st p q. own_there g p ((in_closed g g n after kind (open_closed m.taken d o g i c og) st).0 p q)

-- PROGRESS

module _ {Row Begun Decision Verdict : Type 0} (m : Source Row Begun Decision Verdict) (d : Graph) (so : Sound m (SeenIn d) d 0)
    (f : Table Row) (sol : Obeys m d f) (closed : Closed d d) (depth : ℕ → ℕ) (falls : IsDepth d depth)
    (s : State Row Begun Decision Verdict) (k : Keeps m d so f sol s) (over : IsOver d m s) where
  -- where nothing is enabled, no container of this kind is open
  abbrev KindOver : Kind → Type 0
  KindOver kind =
      (g : Graph) (i : List ℕ) (n : ℕ) (after : List Need) (w : (Opening Decision Verdict)) → IsOpen m.taken d s.opens g i
      → In g n after kind → s.opens (address n i) ≡ Some w → ⊥

  abbrev AllKinds : Graph → Type 0
  AllKinds done = Unit {0}
  AllKinds (add n after kind rest) = KindOver kind × AllKinds rest

  -- and each open graph has ended
  abbrev Ends : Graph → Type 0
  Ends g = (i : List ℕ) → IsOpen m.taken d s.opens g i → is_ended g i s.rows ≡ true

  kind_at : (g : Graph) (n : ℕ) (after : List Need) (kind : Kind) → AllKinds g → In g n after kind → KindOver kind
  kind_at _ n after kind all here = all.0
  kind_at _ n after kind all (there {rest = rest} st) = kind_at rest n after kind all.1 st

  all_named : (ns : List Need) (i : List ℕ) → ((p : ℕ) → Names ns p → has_ended (s.rows (address p i)) ≡ true)
      → all_ended ns i s.rows ≡ true
  all_named [] i h = refl
  all_named (n ∷ ns) i h =
      and_of (has_ended (s.rows (address n.name i))) (all_ended ns i s.rows) (h n.name (inl refl)) (all_named ns i (λ p q. h p (inr q)))

  -- an action whose named ones have rows has one
  action_ends : (g : Graph) (i : List ℕ) (n : ℕ) (after : List Need) (kind : Kind) → IsOpen m.taken d s.opens g i → In g n after kind
      → KindOver kind → all_ended after i s.rows ≡ true → has_ended (s.rows (address n i)) ≡ true
  action_ends g i n after kind og st ko named = with_row (s.rows (address n i)) refl
    where
      gated : (kind : Kind) → IsDecided d m s n i after kind → (b : Bool) → gate m after n i s.rows ≡ b → ⊥
      gated kind de false e =
          over (Skip n i) (record { rows = place (skip m n kind i) s.rows; running = s.running; opens = s.opens })
          (after, kind, de, e, refl)
      gated Leaf de true e =
          over (Start n i) (record {
            rows = s.rows;
            running =
                place (one n i (record { begun = m.start (address n i) s.rows; tries = 0 })) s.running;
            opens = s.opens;
          }) (after, de, e, refl)
      gated (Scope h) de true e = over (Open n i) _ (after, Scope h, tt, de, e, refl)
      gated (Choice bs) de true e = over (Open n i) _ (after, Choice bs, tt, de, e, refl)
      gated (Foreach t h) de true e = over (Open n i) _ (after, Foreach t h, tt, de, e, refl)
      gated (Until most h) de true e = over (Open n i) _ (after, Until most h, tt, de, e, refl)

      with_open : s.rows (address n i) ≡ None → s.running (address n i) ≡ None → (o : Option (Opening Decision Verdict))
          → s.opens (address n i) ≡ o → ⊥
      with_open no_row free None e =
          gated kind (record {
            is_there = record { graph = g; is_open = og; is_in = st };
            no_row = no_row;
            not_running = free;
            not_open =
                e;
            ended = named;
          }) (gate m after n i s.rows) refl
      with_open no_row free (Some w) e = ko g i n after w og st e

      with_running : s.rows (address n i) ≡ None → (o : Option (Running Begun)) → s.running (address n i) ≡ o → ⊥
      with_running no_row None e = with_open no_row e (s.opens (address n i)) refl
      with_running no_row (Some w) e =
          ⊎_elim
          (λ t. over (Try n i)
          (record {
            rows = s.rows;
            running = place (one n i (record { begun = w.begun; tries = suc w.tries })) s.running;
            opens =
                s.opens;
          }) (w, e, ltb-true w.tries (m.tries (address n i) w.begun) t, refl))
          (λ u. over (End n i)
          (record {
            rows = place (one n i (m.finish (address n i) w.begun s.rows)) s.rows;
            running = without n i s.running;
            opens =
                s.opens;
          }) (w, e, all u, refl))
          (two (nat_lt w.tries (m.tries (address n i) w.begun)))
        where
          all : nat_lt w.tries (m.tries (address n i) w.begun) ≡ false → w.tries ≡ m.tries (address n i) w.begun
          all u =
              let x = ltb-false w.tries (m.tries (address n i) w.begun) u in let y = (k.held (address n i) w e).so_far in
              omega (arith, x, y)

      with_row : (o : Option Row) → s.rows (address n i) ≡ o → has_ended (s.rows (address n i)) ≡ true
      with_row None e = absurd (with_running e (s.running (address n i)) refl)
      with_row (Some r) e = ap has_ended e

  ends_of : (g : Graph) → AllKinds g → Ends g
  ends_of g all i og = collect g (λ n after kind st. each (suc (depth n)) n after kind st (omega arith))
    where
      each : (b n : ℕ) (after : List Need) (kind : Kind) → In g n after kind → depth n < b → has_ended (s.rows (address n i)) ≡ true
      each zero n after kind st lt = absurd (omega arith)
      each (suc b) n after kind st lt =
          action_ends g i n after kind og st (kind_at g n after kind all st)
          (all_named after i (λ p q.
          let r = closed_is m d so f sol closed s.opens g i n after kind og st p q in
          let l = falls p n (subst (λ a. Names a p) (sym (kind_there m d so f sol s.opens g i n after kind og st).1) q) in
          each b p r.0 r.1 r.2 (omega (arith, l, lt))))

      collect : (r : Graph) → ((n : ℕ) (after : List Need) (kind : Kind) → In r n after kind → has_ended (s.rows (address n i)) ≡ true)
          → is_ended r i s.rows ≡ true
      collect done h = refl
      collect (add n after kind rest) h =
          and_of (has_ended (s.rows (address n i))) (is_ended rest i s.rows) (h n after kind here)
          (collect rest (λ q a l st. h q a l (there st)))

  fact : (g : Graph) (i : List ℕ) (n : ℕ) (after : List Need) (kind : Kind) (w : (Opening Decision Verdict)) → IsOpen m.taken d s.opens g i
      → In g n after kind → s.opens (address n i) ≡ Some w → OpenFact m f s.rows kind n i w
  fact g i n after kind w og st e = (fact_of m d so f sol s.rows s.opens k.facts g i n after kind w og st e).1

  -- and each taken branch
  abbrev AnyEnds : Branches → Type 0
  AnyEnds bs = (c : ℕ) (b : Graph) → branch_at bs c ≡ Some b → Ends b

  choice_over : (bs : Branches) → AnyEnds bs → KindOver (Choice bs)
  choice_over bs eb g i n after w og st e =
      over (Close n i) _ (
        after,
        Choice bs,
        w,
        record { graph = g; is_open = og; is_in = st },
        e,
        (λ b is. eb (m.taken w.decision) b is i (chosen og st e is)),
        refl,
      )

  -- where all of the begun iterations have ended, none is unfinished
  none_unfinished : (h : Graph) (i : List ℕ) (c : ℕ) → ((j : ℕ) → j < c → is_ended h (i ++ j ∷ []) s.rows ≡ true)
      → unfinished h i s.rows c ≡ 0
  none_unfinished h i zero all = refl
  none_unfinished h i (suc c) all =
      when (is_ended h (i ++ c ∷ []) s.rows) _ _ (all c (omega arith)) ∙ none_unfinished h i c (λ j lt. all j (omega arith))

  loop_over : (t : Pace) (h : Graph) → Goes t → Ends h → KindOver (Foreach t h)
  loop_over t h go eh g i n after w og st e =
      ⊎_elim
      (λ less. over (Begin n i) _ (after, Foreach t h, w, record { graph = g; is_open = og; is_in = st }, e, may t st go (num less), refl))
      (λ u. over (Close n i) _ (
        after,
        Foreach t h,
        w,
        record { graph = g; is_open = og; is_in = st },
        e,
        (all u, λ j l. eh (i ++ j ∷ []) (turn j og st e l)),
        refl,
      ))
      (two (nat_lt w.next (m.items w.decision)))
    where
      num : nat_lt w.next (m.items w.decision) ≡ true → w.next < m.items w.decision
      num q = ltb-true w.next (m.items w.decision) q

      all : nat_lt w.next (m.items w.decision) ≡ false → w.next ≡ m.items w.decision
      all q = let x = ltb-false w.next (m.items w.decision) q in let y = (fact g i n after (Foreach t h) w og st e).1 in omega (arith, x, y)

      may : (t : Pace) → In g n after (Foreach t h) → Goes t → w.next < m.items w.decision → MayBegin m (Foreach t h) i w s.rows
      may InTurn st go l = (l, λ j lt. eh (i ++ j ∷ []) (turn j og st e lt))
      may (AtMost most) st go l =
          (l, let x = none_unfinished h i w.next (λ j lt. eh (i ++ j ∷ []) (turn j og st e lt)) in omega (arith, x, go))

  until_over : (most : ℕ) (h : Graph) → 0 < most → Ends h → KindOver (Until most h)
  until_over most h pos eh g i n after w og st e = by_next w.next refl
    where
      there' : IsThere d m s n i after (Until most h)
      there' = record { graph = g; is_open = og; is_in = st }

      by_test : (j : ℕ) → w.next ≡ suc j → (o : Option Verdict) → w.test ≡ o → ⊥
      by_test j q None t =
          over (Test n i) _ (after, Until most h, w, j, there', e, (q, t, eh (i ++ j ∷ []) (round j og st e (omega (arith, q)))), refl)
      by_test j q (Some v) t =
          ⊎_elim
          (λ ends. over (Close n i) _ (after, Until most h, w, there', e, (v, t, inl ends), refl))
          (λ goes. ⊎_elim
          (λ less. over (Begin n i) _ (after, Until most h, w, there', e, (num less, inr (v, t, goes)), refl))
          (λ u. over (Close n i) _ (after, Until most h, w, there', e, (v, t, inr (all u)), refl))
          (two (nat_lt w.next most)))
          (two (m.ends v))
        where
          num : nat_lt w.next most ≡ true → w.next < most
          num q = ltb-true w.next most q

          all : nat_lt w.next most ≡ false → w.next ≡ most
          all q = let x = ltb-false w.next most q in let y = (fact g i n after (Until most h) w og st e).0 in omega (arith, x, y)

      by_next : (x : ℕ) → w.next ≡ x → ⊥
      by_next zero q = over (Begin n i) _ (after, Until most h, w, there', e, (omega (arith, q, pos), inl q), refl)
      by_next (suc j) q = by_test j q w.test refl

  mutual
    kind_over : (kind : Kind) → TurnsIn kind → KindOver kind
    kind_over Leaf t = λ g i n after w og st e. fact g i n after Leaf w og st e
    kind_over (Scope h) t =
        λ g i n after w og st e. over (Close n i) _
        (after, Scope h, w, record { graph = g; is_open = og; is_in = st }, e, ends_of h (all_kinds h t) i (scope og st e), refl)
    kind_over (Choice bs) t = choice_over bs (any_ends bs t)
    kind_over (Foreach pace h) t = loop_over pace h t.0 (ends_of h (all_kinds h t.1))
    kind_over (Until most h) t = until_over most h t.0 (ends_of h (all_kinds h t.1))

    any_ends : (bs : Branches) → TurnsAny bs → AnyEnds bs
    any_ends no_branch t = λ c b e. absurd (none-some b e)
    any_ends (branch a rest) t = λ c b e.
        ⊎_elim
        (λ one'. let same : Some a ≡ Some b = sym (when (is_one c) (Some a) _ one') ∙ e in let is : a ≡ b = cc in
        subst Ends is (ends_of a (all_kinds a t.0)))
        (λ other. any_ends rest t.1 (less_one c) b (sym (unless (is_one c) (Some a) _ other) ∙ e))
        (two (is_one c))

    all_kinds : (g : Graph) → Turns g → AllKinds g
    all_kinds done t = tt
    all_kinds (add n after kind rest) t = (kind_over kind t.0, all_kinds rest t.1)

  pub all_ended_over : Turns d → is_ended d [] s.rows ≡ true
  all_ended_over t = ends_of d (all_kinds d t) [] top

-- FROM A FRESH STATE

module _ {Row Begun Decision Verdict : Type 0} (d : Graph) (m : Source Row Begun Decision Verdict) (depth : ℕ → ℕ)
    (is : IsInstance d m depth) where
  pub sol : Obeys m d (meaning m depth d)
  sol = meaning_solves m depth d is.falls is.local

  plain' : (n : ℕ) → (m.pinned n || m.reclosed n) ≡ false
  plain' n = ap (λ b. b || m.reclosed n) (is.own n).0 ∙ (is.own n).1

  pub nothing_special : SpecialOut m d is.local (meaning m depth d) sol
  nothing_special o g i n after kind og st q h sp = absurd (true≢false (sym sp ∙ plain' q))

  -- what each reached state keeps
  pub kept_state : (es : List Event) (s : State Row Begun Decision Verdict) → Run d m fresh es s
      → Keeps m d is.local (meaning m depth d) sol s
  kept_state es s r =
      run_keeps m d is.local (meaning m depth d) sol (closed_is m d is.local (meaning m depth d) sol is.closed)
      nothing_special
      fresh es s (fresh_keeps m d is.local (meaning m depth d) sol plain') r

  pub rows_are_the_meanings : RowsAreTheMeanings d m depth
  rows_are_the_meanings es s r = (kept_state es s r).placed.by

  pub all_rows_at_the_end : AllRowsAtTheEnd d m depth
  all_rows_at_the_end es s r over =
      let k = kept_state es s r in
      ended_settled m d is.local (meaning m depth d) sol s k d [] top
      (all_ended_over m d is.local (meaning m depth d) sol is.closed depth is.falls s k over is.turns)
