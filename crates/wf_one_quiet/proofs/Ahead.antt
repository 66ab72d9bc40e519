-- An event of a state has been passed in a state that is further, or is enabled there too.
use Rattle.std.proofs.Common.{◌≡◌, ℕ, suc, ◌<◌, ◌≤◌, true, false, ◌||◌, List, [], ◌∷◌, ◌++◌, Option, Some, None, ◌⊎◌, inl, inr, ⊎_elim, refl, sym, ap, ◌∙◌, subst, arith, nat_lt, ltb-true, ltb-false, true≢false}
use Rattle.wf_layers.specs.Definition.{Need, InTurn, AtMost, Kind, Leaf, Scope, Choice, Foreach, Until, Graph, branch_at, needs_of, kind_of}
use Rattle.wf_layers.specs.Address.{address}
use Rattle.wf_layers.specs.Source.{Source, gate}
use Rattle.wf_layers.specs.Meaning.{meaning}
use Rattle.wf_layers.specs.Facts.{Facts}
use Rattle.wf_layers.specs.Machine.{Running, Opening, State, Event, Start, Try, End, Skip, Open, Begin, Test, Close, IsContainer, MayBegin, MayTest, MayClose, IsThere, IsDecided, Step, has_ended, all_ended, unfinished}
use Rattle.wf_layers.proofs.Basics.{and_in, and_of, own_in, two}
use Rattle.wf_layers.proofs.Limit.{Grows, ended_more, fewer_unfinished}
use Rattle.wf_kept.specs.Reached.{IsReached}
use Rattle.wf_kept.proofs.Informed.{kinds_are_known, open_stands, reached_facts, running_stands}
use Rattle.wf_kept.proofs.Resumed.{decided_is_new}
use Rattle.wf_quiet.specs.Quiet.{Answers, HasAnswer}
use Rattle.wf_one_quiet.specs.Behind.{HasRow, HasGone, IsBehind}
use Rattle.wf_one_quiet.proofs.Gates.{decided_has_row, gate_is_known, running_gate}
use Rattle.wf_one_quiet.proofs.Paths.{in_graph, still_open}

pub some_or : {A : Type 0} (o : Option A) → ((r : A) × (o ≡ Some r)) ⊎ (o ≡ None)
some_or None = inr refl
some_or (Some r) = inl (r, refl)

pub one_entry : {A : Type 0} {o : Option A} {u v : A} → o ≡ Some u → o ≡ Some v → u ≡ v
one_entry {o = o} {u = u} {v = v} e h = let same : Some u ≡ Some v = sym e ∙ h in cc

module _ {Row Begun Decision Verdict : Type 0} where
  -- WHAT HAS BEEN PASSED: the event, taken in s, would tell q nothing new
  abbrev pub HasPassed : Event → State Row Begun Decision Verdict → State Row Begun Decision Verdict → Type 0
  HasPassed (Start n i) s q = HasRow q (address n i) ⊎ ((v : Running Begun) × (q.running (address n i) ≡ Some v))
  HasPassed (Try n i) s q =
      HasRow q (address n i)
      ⊎ ((v : Running Begun) × (q.running (address n i) ≡ Some v)
      × ((w : Running Begun) → s.running (address n i) ≡ Some w → w.tries < v.tries))
  HasPassed (End n i) s q = HasRow q (address n i)
  HasPassed (Skip n i) s q = HasRow q (address n i)
  HasPassed (Open n i) s q = HasRow q (address n i) ⊎ ((v : Opening Decision Verdict) × (q.opens (address n i) ≡ Some v))
  HasPassed (Begin n i) s q =
      HasRow q (address n i)
      ⊎ ((v : Opening Decision Verdict) × (q.opens (address n i) ≡ Some v)
      × ((w : Opening Decision Verdict) → s.opens (address n i) ≡ Some w → w.next < v.next))
  HasPassed (Test n i) s q =
      HasRow q (address n i)
      ⊎ ((v : Opening Decision Verdict) × (q.opens (address n i) ≡ Some v)
      × ((w : Opening Decision Verdict) → s.opens (address n i) ≡ Some w
      → (w.next < v.next) ⊎ ((w.next ≡ v.next) × ((t : Verdict) × (v.test ≡ Some t)))))
  HasPassed (Close n i) s q = HasRow q (address n i)

module _ {Row Begun Decision Verdict : Type 0} (answered : Answers) (d : Graph) (depth : ℕ → ℕ) (m : Source Row Begun Decision Verdict)
    (s : State Row Begun Decision Verdict) (rs : IsReached d depth m s) (q : State Row Begun Decision Verdict) (rq : IsReached d depth m q)
    (behind : IsBehind s q) where
  fs : Facts d m (meaning m depth d) s
  fs = reached_facts d depth m s rs

  fq : Facts d m (meaning m depth d) q
  fq = reached_facts d depth m q rq

  abbrev pub IsEnabled : Event → Type 0
  IsEnabled e = (q' : State Row Begun Decision Verdict) × HasAnswer answered q e × Step d m q e q'

  more_rows : Grows s.rows q.rows
  more_rows y e = go (s.rows y) refl e
    where
      go : (o : Option Row) → s.rows y ≡ o → has_ended o ≡ true → has_ended (q.rows y) ≡ true
      go None h e = absurd (true≢false (sym e))
      go (Some r) h e = ap has_ended (behind.rows y r h)

  more_ended : (after : List Need) (i : List ℕ) → all_ended after i s.rows ≡ true → all_ended after i q.rows ≡ true
  more_ended [] i e = refl
  more_ended (n ∷ ns) i e =
      let h = and_in (has_ended (s.rows (address n.name i))) (all_ended ns i s.rows) e in
      and_of (has_ended (q.rows (address n.name i))) (all_ended ns i q.rows) (more_rows (address n.name i) h.0) (more_ended ns i h.1)

  -- WHAT IS DECIDED in s is decided in q, where nothing has become of it there
  module _ (n : ℕ) (i : List ℕ) (after : List Need) (kind : Kind) (de : IsDecided d m s n i after kind) where
    known_kind : (kind_of d n ≡ Some kind) × (needs_of d n ≡ after)
    known_kind = kinds_are_known d depth m s rs n i after kind de.is_there

    still_there : q.rows (address n i) ≡ None → IsThere d m q n i after kind
    still_there none =
        ⊎_elim
        (λ og. record { graph = de.is_there.graph; is_open = og; is_in = de.is_there.is_in })
        (λ settled. absurd (decided_has_row d depth m s rs n i after kind de
        (sym (settled (address n i)
        (in_graph d depth m s rs q rq behind de.is_there.graph i n after kind de.is_there.is_open de.is_there.is_in (address n i)
        (own_in n kind i)))
        ∙ none)))
        (still_open d depth m s rs q rq behind de.is_there.graph i de.is_there.is_open)

    still_decided : q.rows (address n i) ≡ None → q.running (address n i) ≡ None → q.opens (address n i) ≡ None
        → IsDecided d m q n i after kind
    still_decided none idle closed = record {
      is_there = still_there none;
      no_row = none;
      not_running = idle;
      not_open = closed;
      ended = more_ended after i de.ended;
    }

    same_gate : IsDecided d m q n i after kind → gate m after n i q.rows ≡ gate m after n i s.rows
    same_gate dq = gate_is_known d depth m q rq n i after kind dq ∙ sym (gate_is_known d depth m s rs n i after kind de)

    not_running : IsContainer kind → (v : Running Begun) → q.running (address n i) ≡ Some v → ⊥
    not_running c v e =
        let th = (running_stands d depth m q rq (address n i) v e).0 in
        subst IsContainer
        (one_entry known_kind.0 (kinds_are_known d depth m q rq n i th.0 Leaf th.1).0)
        c

    not_open : kind ≡ Leaf → (v : Opening Decision Verdict) → q.opens (address n i) ≡ Some v → ⊥
    not_open leaf v e =
        let th = (open_stands d depth m q rq (address n i) v e).0 in
        subst IsContainer
        (one_entry (kinds_are_known d depth m q rq n i th.0 th.1 th.3).0 known_kind.0 ∙ leaf)
        th.2

    -- where its gate fails it neither runs nor is open
    module _ (fails : gate m after n i s.rows ≡ false) where
      failed : gate m (needs_of d n) n i (meaning m depth d) ≡ false
      failed = ap (λ a. gate m a n i (meaning m depth d)) known_kind.1 ∙ sym (gate_is_known d depth m s rs n i after kind de) ∙ fails

      not_started : (v : Running Begun) → q.running (address n i) ≡ Some v → ⊥
      not_started v e = true≢false (sym (running_gate d depth m q rq (address n i) v e) ∙ failed)

      not_entered : (v : Opening Decision Verdict) → q.opens (address n i) ≡ Some v → ⊥
      not_entered v e =
          let th = (open_stands d depth m q rq (address n i) v e).0 in
          true≢false
          (sym (fq.gates n i th.0 th.1 v th.3 e)
          ∙ ap (λ b. b || gate m th.0 n i (meaning m depth d)) (decided_is_new d depth m s rs n i after kind de).1
          ∙ ap (λ a. gate m a n i (meaning m depth d)) (sym (kinds_are_known d depth m q rq n i th.0 th.1 th.3).1)
          ∙ failed)

  -- an open container of s is the same in q, where it is open there
  open_there : (n : ℕ) (i : List ℕ) (after : List Need) (kind : Kind) → IsThere d m s n i after kind
      → (v : Opening Decision Verdict) → q.opens (address n i) ≡ Some v → (before : List Need) × IsThere d m q n i before kind
  open_there n i after kind th v e =
      let tq = (open_stands d depth m q rq (address n i) v e).0 in (
        tq.0,
        subst (λ z. IsThere d m q n i tq.0 z)
            (one_entry (kinds_are_known d depth m q rq n i tq.0 tq.1 tq.3).0 (kinds_are_known d depth m s rs n i after kind th).0) tq.3,
      )

  -- WHAT AN OPEN CONTAINER MAY DO in s it may do in q, where it is as far there

  begins : (kind : Kind) (i : List ℕ) (w v : Opening Decision Verdict) → v.decision ≡ w.decision → w.next ≡ v.next
      → ((t : Verdict) → w.test ≡ Some t → v.test ≡ Some t) → MayBegin m kind i w s.rows → MayBegin m kind i v q.rows
  begins Leaf i w v dec same tests may = may
  begins (Scope g) i w v dec same tests may = may
  begins (Choice bs) i w v dec same tests may = may
  begins (Foreach InTurn g) i w v dec same tests may = (
    let items = ap m.items dec in let lt = may.0 in omega (arith, items, same, lt),
    λ j lt. ended_more g (i ++ j ∷ []) s.rows q.rows more_rows (may.1 j (omega (arith, same, lt))),
  )
  begins (Foreach (AtMost most) g) i w v dec same tests may = (
    let items = ap m.items dec in let lt = may.0 in omega (arith, items, same, lt),
    let fewer = fewer_unfinished g i s.rows q.rows more_rows v.next in let at = ap (λ c. unfinished g i s.rows c) same in
        let few = may.1 in omega (arith, fewer, at, few),
  )
  begins (Until most g) i w v dec same tests may = (
    let lt = may.0 in omega (arith, same, lt),
    ⊎_elim (λ z. inl (sym same ∙ z)) (λ t. inr (t.0, tests t.0 t.1, t.2)) may.1,
  )

  tests_it : (kind : Kind) (i : List ℕ) (w v : Opening Decision Verdict) (j : ℕ) → w.next ≡ v.next → v.test ≡ None
      → MayTest m kind i w s.rows j → MayTest m kind i v q.rows j
  tests_it Leaf i w v j same none may = may
  tests_it (Scope g) i w v j same none may = may
  tests_it (Choice bs) i w v j same none may = may
  tests_it (Foreach pace g) i w v j same none may = may
  tests_it (Until most g) i w v j same none may =
      (sym same ∙ may.0, none, ended_more g (i ++ j ∷ []) s.rows q.rows more_rows may.2)

  closes : (kind : Kind) (n : ℕ) (i : List ℕ) (w v : Opening Decision Verdict) → kind_of d n ≡ Some kind
      → s.opens (address n i) ≡ Some w → q.opens (address n i) ≡ Some v → HasGone w v → MayClose m kind i w s.rows
      → MayClose m kind i v q.rows
  closes Leaf n i w v is e ev gone may = may
  closes (Scope g) n i w v is e ev gone may = ended_more g i s.rows q.rows more_rows may
  closes (Choice bs) n i w v is e ev gone may =
      λ b at. ended_more b i s.rows q.rows more_rows (may b (ap (λ z. branch_at bs (m.taken z)) (sym gone.0) ∙ at))
  closes (Foreach pace g) n i w v is e ev gone may =
      (all, λ j lt. ended_more g (i ++ j ∷ []) s.rows q.rows more_rows (may.1 j (omega (arith, all, items, full, lt))))
    where
      items : m.items v.decision ≡ m.items w.decision
      items = ap m.items gone.0

      full : w.next ≡ m.items w.decision
      full = may.0

      all : v.next ≡ m.items v.decision
      all =
          let most = (fq.opens n i v (Foreach pace g) ev is).1 in
          ⊎_elim (λ lt. omega (arith, items, full, most, lt)) (λ h. let same = h.0 in omega (arith, items, full, same)) gone.1
  closes (Until most g) n i w v is e ev gone may =
      let there' = fq.opens n i v (Until most g) ev is in
      let tested = (fs.opens n i w (Until most g) e is).2 may.0 may.1 in
      ⊎_elim
      (λ lt. absurd (⊎_elim
      (λ ends. true≢false (sym ends ∙ ap m.ends (sym tested.2)
      ∙ (there'.1 tested.0 (let next = tested.1 in omega (arith, next, lt))).0))
      (λ last. let le = there'.0 in omega (arith, last, le, lt))
      may.2))
      (λ h. (may.0, h.1 may.0 may.1, ⊎_elim (λ ends. inl ends) (λ last. inr (sym h.0 ∙ last)) may.2))
      gone.1

  -- AN EVENT THAT s TAKES is passed in q, or q may take it

  pub ahead : (e : Event) (s' : State Row Begun Decision Verdict) → Step d m s e s' → HasAnswer answered s e → HasPassed e s q ⊎ IsEnabled e
  ahead (Start n i) s' (after, de, pass, to) has =
      ⊎_elim
      (λ row. inl (inl row))
      (λ none. ⊎_elim
      (λ run. inl (inr run))
      (λ idle. ⊎_elim
      (λ open'. absurd (not_open n i after Leaf de refl open'.0 open'.1))
      (λ closed. let dq = still_decided n i after Leaf de none idle closed in
      inr (_, tt, (after, dq, same_gate n i after Leaf de dq ∙ pass, refl)))
      (some_or (q.opens (address n i))))
      (some_or (q.running (address n i))))
      (some_or (q.rows (address n i)))
  ahead (Try n i) s' (w, e, lt, to) has =
      ⊎_elim
      (λ row. inl (inl row))
      (λ h. tried h.0 h.1 h.2.0 h.2.1)
      (behind.running (address n i) w e)
    where
      tried : (v : Running Begun) → q.running (address n i) ≡ Some v → v.begun ≡ w.begun → w.tries ≤ v.tries
          → HasPassed (Try n i) s q ⊎ IsEnabled (Try n i)
      tried v ev begun le =
          ⊎_elim
          (λ t. inl (inr (v, ev, λ u eu. subst (λ (z : Running Begun). z.tries < v.tries) (one_entry e eu) (ltb-true w.tries v.tries t))))
          (λ f. let more = ltb-false w.tries v.tries f in let same : w.tries ≡ v.tries = omega (arith, more, le) in
          let left = ap (λ b. m.tries (address n i) b) begun in inr (
            _,
            λ u eu. subst (λ (z : Running Begun). answered (address n i) (suc z.tries) ≡ true) (one_entry ev eu)
                (subst (λ c. answered (address n i) (suc c) ≡ true) same (has w e)),
            (v, ev, omega (arith, lt, same, left), refl),
          ))
          (two (nat_lt w.tries v.tries))
  ahead (End n i) s' (w, e, all, to) has =
      ⊎_elim
      (λ row. inl row)
      (λ h. let left = ap (λ b. m.tries (address n i) b) h.2.0 in let le = h.2.1 in
      let most = (fq.running (address n i) h.0 h.1).1 in inr (_, tt, (h.0, h.1, omega (arith, all, left, le, most), refl)))
      (behind.running (address n i) w e)
  ahead (Skip n i) s' (after, kind, de, fails, to) has =
      ⊎_elim
      (λ row. inl row)
      (λ none. ⊎_elim
      (λ run. absurd (not_started n i after kind de fails run.0 run.1))
      (λ idle. ⊎_elim
      (λ open'. absurd (not_entered n i after kind de fails open'.0 open'.1))
      (λ closed. let dq = still_decided n i after kind de none idle closed in
      inr (_, tt, (after, kind, dq, same_gate n i after kind de dq ∙ fails, refl)))
      (some_or (q.opens (address n i))))
      (some_or (q.running (address n i))))
      (some_or (q.rows (address n i)))
  ahead (Open n i) s' (after, kind, c, de, pass, to) has =
      ⊎_elim
      (λ row. inl (inl row))
      (λ none. ⊎_elim
      (λ run. absurd (not_running n i after kind de c run.0 run.1))
      (λ idle. ⊎_elim
      (λ open'. inl (inr open'))
      (λ closed. let dq = still_decided n i after kind de none idle closed in
      inr (_, tt, (after, kind, c, dq, same_gate n i after kind de dq ∙ pass, refl)))
      (some_or (q.opens (address n i))))
      (some_or (q.running (address n i))))
      (some_or (q.rows (address n i)))
  ahead (Begin n i) s' (after, kind, w, th, e, may, to) has =
      ⊎_elim
      (λ row. inl (inl row))
      (λ h. ⊎_elim
      (λ lt. inl (inr (h.0, h.1, λ u eu. subst (λ (z : Opening Decision Verdict). z.next < h.0.next) (one_entry e eu) lt)))
      (λ same. let there' = open_there n i after kind th h.0 h.1 in
      inr (_, tt, (there'.0, kind, h.0, there'.1, h.1, begins kind i w h.0 h.2.0 same.0 same.1 may, refl)))
      h.2.1)
      (behind.opens (address n i) w e)
  ahead (Test n i) s' (after, kind, w, j, th, e, may, to) has =
      ⊎_elim
      (λ row. inl (inl row))
      (λ h. ⊎_elim
      (λ lt. inl (inr (h.0, h.1, λ u eu. inl (subst (λ (z : Opening Decision Verdict). z.next < h.0.next) (one_entry e eu) lt))))
      (λ same. ⊎_elim
      (λ t. inl (inr (h.0, h.1, λ u eu. inr (ap (λ (z : Opening Decision Verdict). z.next) (one_entry eu e) ∙ same.0, t))))
      (λ none. let there' = open_there n i after kind th h.0 h.1 in
      inr (_, tt, (there'.0, kind, h.0, j, there'.1, h.1, tests_it kind i w h.0 j same.0 none may, refl)))
      (some_or h.0.test))
      h.2.1)
      (behind.opens (address n i) w e)
  ahead (Close n i) s' (after, kind, w, th, e, may, to) has =
      ⊎_elim
      (λ row. inl row)
      (λ h. let there' = open_there n i after kind th h.0 h.1 in
      inr (
        _,
        tt,
        (
          there'.0,
          kind,
          h.0,
          there'.1,
          h.1,
          closes kind n i w h.0 (kinds_are_known d depth m s rs n i after kind th).0 e h.1 h.2 may,
          refl,
        ),
      ))
      (behind.opens (address n i) w e)
