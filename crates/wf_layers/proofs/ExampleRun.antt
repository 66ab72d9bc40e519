-- A run of the example, event by event: the first two iterations of the Foreach go side by side, the second ends first.
use Rattle.std.proofs.Common.{◌≡◌, ℕ, zero, suc, Bool, List, [], ◌∷◌, ◌++◌, length, length-append, Option, Some, None, refl, sym, ap, ◌∙◌, subst, arith}
use Rattle.wf_layers.specs.Definition.{Need, Kind, Leaf, Scope, Choice, Foreach, Until, Graph, kind_of}
use Rattle.wf_layers.specs.Address.{address}
use Rattle.wf_layers.specs.Source.{Source}
use Rattle.wf_layers.specs.Meaning.{meaning, skip}
use Rattle.wf_layers.specs.Bound.{total}
use Rattle.wf_layers.specs.Enabled.{events}
use Rattle.wf_layers.specs.Laws.{IsInstance}
use Rattle.wf_layers.specs.Machine.{Running, Opening, State, fresh, Event, Start, Try, End, Skip, Open, Begin, Test, Close, place_of, place, one, without, opened, passed_over, closing, MayTest, IsThere, Step, Run, IsOver}
use Rattle.wf_layers.proofs.Open.{kind_there}
use Rattle.wf_layers.proofs.Progress.{sol as sol_of}
use Rattle.wf_layers.proofs.Enabled.{events_are_exact, runs_grow}
use Rattle.wf_layers.proofs.Bounded.{events_are_counted}
use Rattle.wf_layers.proofs.Example.{row, before, graph, depths, a, instance_there, events as events_there}

module _ {Row Begun Decision Verdict : Type 0} (d : Graph) (m : Source Row Begun Decision Verdict) where
  abbrev pub St : Type 0
  St = State Row Begun Decision Verdict

  abbrev pub last_of : ℕ → ℕ
  last_of zero = 0
  last_of (suc j) = j

  abbrev pub tried : ℕ → List ℕ → Option (Running Begun) → St → St
  tried n i None s = s
  tried n i (Some w) s =
      record { rows = s.rows; running = place (one n i (record { begun = w.begun; tries = suc w.tries })) s.running; opens = s.opens }

  abbrev pub ended : ℕ → List ℕ → Option (Running Begun) → St → St
  ended n i None s = s
  ended n i (Some w) s =
      record { rows = place (one n i (m.finish (address n i) w.begun s.rows)) s.rows; running = without n i s.running; opens = s.opens }

  abbrev pub skipped : ℕ → List ℕ → Option Kind → St → St
  skipped n i None s = s
  skipped n i (Some kind) s = record { rows = place (skip m n kind i) s.rows; running = s.running; opens = s.opens }

  abbrev pub entered : ℕ → List ℕ → Option Kind → St → St
  entered n i None s = s
  entered n i (Some kind) s = record {
    rows = place (passed_over m kind (m.taken (m.decide (address n i) s.rows)) i) s.rows;
    running = s.running;
    opens = opened n i (Some (record { decision = m.decide (address n i) s.rows; next = 0; test = None })) s.opens;
  }

  abbrev pub begun : ℕ → List ℕ → Option (Opening Decision Verdict) → St → St
  begun n i None s = s
  begun n i (Some w) s =
      record {
        rows = s.rows;
        running = s.running;
        opens =
            opened n i (Some (record { decision = w.decision; next = suc w.next; test = None })) s.opens;
      }

  abbrev pub tested : ℕ → List ℕ → Option (Opening Decision Verdict) → St → St
  tested n i None s = s
  tested n i (Some w) s = record {
    rows = s.rows;
    running = s.running;
    opens =
        opened n i (Some (record {
          decision = w.decision;
          next = w.next;
          test =
              Some (m.test (address n i) (last_of w.next) s.rows);
        })) s.opens;
  }

  abbrev pub closed : ℕ → List ℕ → Option Kind → Option (Opening Decision Verdict) → St → St
  closed n i None o s = s
  closed n i (Some kind) None s = s
  closed n i (Some kind) (Some w) s =
      record { rows = place (one n i (closing m kind (address n i) w s.rows)) s.rows; running = s.running; opens = opened n i None s.opens }

  -- the state after an event that is enabled
  abbrev pub after_event : St → Event → St
  after_event s (Start n i) =
      record {
        rows = s.rows;
        running = place (one n i (record { begun = m.start (address n i) s.rows; tries = 0 })) s.running;
        opens =
            s.opens;
      }
  after_event s (Try n i) = tried n i (s.running (address n i)) s
  after_event s (End n i) = ended n i (s.running (address n i)) s
  after_event s (Skip n i) = skipped n i (kind_of d n) s
  after_event s (Open n i) = entered n i (kind_of d n) s
  after_event s (Begin n i) = begun n i (s.opens (address n i)) s
  after_event s (Test n i) = tested n i (s.opens (address n i)) s
  after_event s (Close n i) = closed n i (kind_of d n) (s.opens (address n i)) s

  abbrev pub after_all : St → List Event → St
  after_all s [] = s
  after_all s (e ∷ es) = after_all (after_event s e) es

  -- each event of the list is the one that is enabled at its address
  abbrev pub Checked : St → List Event → Type 0
  Checked s [] = Unit {0}
  Checked s (e ∷ es) = (events m s d [] (place_of e) ≡ Some e) × Checked (after_event s e) es

  module _ (depth : ℕ → ℕ) (is : IsInstance d m depth) where
    kind_is : (s : St) (n : ℕ) (i : List ℕ) (after : List Need) (kind : Kind) → IsThere d m s n i after kind → kind_of d n ≡ Some kind
    kind_is s n i after kind th =
        (kind_there m d is.local (meaning m depth d) (sol_of d m depth is) s.opens th.graph i n after kind th.is_open th.is_in).0

    after_is : (s : St) (e : Event) (s' : St) → Step d m s e s' → s' ≡ after_event s e
    after_is s (Start n i) s' (after, de, pass, to) = to
    after_is s (Try n i) s' (w, e, lt, to) = to ∙ sym (ap (λ o. tried n i o s) e)
    after_is s (End n i) s' (w, e, all, to) = to ∙ sym (ap (λ o. ended n i o s) e)
    after_is s (Skip n i) s' (after, kind, de, fails, to) = to ∙ sym (ap (λ k. skipped n i k s) (kind_is s n i after kind de.is_there))
    after_is s (Open n i) s' (after, kind, c, de, pass, to) = to ∙ sym (ap (λ k. entered n i k s) (kind_is s n i after kind de.is_there))
    after_is s (Begin n i) s' (after, kind, w, th, e, may, to) = to ∙ sym (ap (λ o. begun n i o s) e)
    after_is s (Test n i) s' (after, kind, w, j, th, e, may, to) =
        to ∙ ap (λ k. record {
          rows = s.rows;
          running = s.running;
          opens =
              opened n i (Some (record { decision = w.decision; next = w.next; test = Some (m.test (address n i) k s.rows) })) s.opens;
        })
        (at_last kind may)
        ∙ sym (ap (λ o. tested n i o s) e)
      where
        at_last : (kd : Kind) → MayTest m kd i w s.rows j → j ≡ last_of w.next
        at_last Leaf may = absurd may
        at_last (Scope g) may = absurd may
        at_last (Choice bs) may = absurd may
        at_last (Foreach pace g) may = absurd may
        at_last (Until most g) may = sym (ap last_of may.0)
    after_is s (Close n i) s' (after, kind, w, th, e, may, to) =
        to ∙ sym (ap (λ k. closed n i k (s.opens (address n i)) s) (kind_is s n i after kind th) ∙ ap (λ o. closed n i (Some kind) o s) e)

    -- so such a list is a run
    run_of : (before' : List Event) (s : St) → Run d m fresh before' s → (es : List Event) → Checked s es → Run d m s es (after_all s es)
    run_of before' s run [] c = refl
    run_of before' s run (e ∷ es) c =
        let z = ((events_are_exact d m depth is before' s run).only (place_of e) e c.0).1 in
        let st = subst (λ u. Step d m s e u) (after_is s e z.0 z.1) z.1 in (
          after_event s e,
          st,
          run_of (before' ++ e ∷ []) (after_event s e)
              (runs_grow d m fresh s (after_event s e) before' e run st) es c.1,
        )

    -- and one with as many events as the meaning gives the definition is over
    over_of : (es : List Event) (s : St) → Run d m fresh es s → length es ≡ total m (meaning m depth d) d [] → IsOver d m s
    over_of es s run all e s' st =
        let more = events_are_counted d m depth is (es ++ e ∷ []) s' (runs_grow d m fresh s s' es e run st) in
        let l = length-append es (e ∷ []) in omega (arith, more, l, all)

abbrev pub the_run : List Event
the_run =
    Start 0 [] ∷ End 0 [] ∷ Skip 8 [] ∷ Open 1 [] ∷ Start 2 [] ∷ End 2 [] ∷ Close 1 []
    ∷ Open 4 [] ∷ Begin 4 [] ∷ Start 5 (0 ∷ []) ∷ End 5 (0 ∷ []) ∷ Test 4 [] ∷ Begin 4 [] ∷ Start 5 (1 ∷ []) ∷ End 5
    (1 ∷ []) ∷ Test 4 [] ∷ Close 4 []
    ∷ Open 6 [] ∷ Begin 6 [] ∷ Begin 6 [] ∷ Start 7 (0 ∷ []) ∷ Start 7 (1 ∷ []) ∷ End 7 (1 ∷ []) ∷ Begin 6 [] ∷ Start 7 (2 ∷ []) ∷ End 7
    (0 ∷ []) ∷ End 7 (2 ∷ []) ∷ Close 6 []
    ∷ Start 9 [] ∷ Try 9 [] ∷ Try 9 [] ∷ End 9 [] ∷ Skip 10 [] ∷ []

checked : Checked graph a fresh the_run
unfolding row before
checked = (
  refl,
  (
    refl,
    (
      refl,
      (
        refl,
        (
          refl,
          (
            refl,
            (
              refl,
              (
                refl,
                (
                  refl,
                  (
                    refl,
                    (
                      refl,
                      (
                        refl,
                        (
                          refl,
                          (
                            refl,
                            (
                              refl,
                              (
                                refl,
                                (
                                  refl,
                                  (
                                    refl,
                                    (
                                      refl,
                                      (
                                        refl,
                                        (
                                          refl,
                                          (
                                            refl,
                                            (
                                              refl,
                                              (refl, (refl, (refl, (refl, (refl, (refl, (refl, (refl, (refl, (refl, tt)))))))))),
                                            ),
                                          ),
                                        ),
                                      ),
                                    ),
                                  ),
                                ),
                              ),
                            ),
                          ),
                        ),
                      ),
                    ),
                  ),
                ),
              ),
            ),
          ),
        ),
      ),
    ),
  ),
)

abbrev pub at_the_end : State ℕ ℕ ℕ Bool
at_the_end = after_all graph a fresh the_run

pub is_a_run : Run graph a fresh the_run at_the_end
is_a_run = run_of graph a depths (instance_there 0) [] fresh refl the_run checked

pub is_over : IsOver graph a at_the_end
is_over = over_of graph a depths (instance_there 0) the_run at_the_end is_a_run (sym events_there)
