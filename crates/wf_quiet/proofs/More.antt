-- A run whose attempts are answered is one of the source that knows more.
use Rattle.std.proofs.Common.{◌≡◌, true, false, List, [], ◌∷◌, refl, sym, ap, ◌∙◌, subst, eqb-true, eq-eqb, ltb-true, true≢false}
use Rattle.std.proofs.lemmas.Bool.{lt-ltb}
use Rattle.wf_layers.specs.Definition.{Graph}
use Rattle.wf_layers.specs.Address.{address}
use Rattle.wf_layers.specs.Source.{Source}
use Rattle.wf_layers.specs.Machine.{State, Event, Start, Try, End, Skip, Open, Begin, Test, Close, place, one, without, Step, fresh}
use Rattle.wf_layers.specs.Answered.{with_leaves, AgreeSoFar, IsKnown}
use Rattle.wf_layers.proofs.Answered.{runs_so_far_are_runs}
use Rattle.wf_quiet.specs.Quiet.{Answers, AreAmong, came, HasAnswer, MadeAreAnswered, AnsweredRun, KnowsMore}
use Rattle.wf_quiet.proofs.Answered.{made_step, made_at_first}

module _ {Row Begun Decision Verdict : Type 0} (answered : Answers) (d : Graph) (m more : Source Row Begun Decision Verdict)
    (knows : KnowsMore answered m more) where
  abbrev St : Type 0
  St = State Row Begun Decision Verdict

  -- the old source, told by the new one
  abbrev old : Source Row Begun Decision Verdict
  old = with_leaves more m.tries m.finish

  -- nothing is known of leaves
  nothing : AgreeSoFar more m.tries m.finish (λ x b c. false)
  nothing = record {
    more = λ x b c e. absurd (true≢false (sym e));
    last = λ x b c e. absurd (true≢false (sym e));
    row = λ x b c t e. absurd (true≢false (sym e));
  }

  -- so an event that asks no leaf is the same
  others : (s : St) (e : Event) (s' : St) → IsKnown (λ x b c. false) s e → Step d old s e s' → Step d more s e s'
  others s e s' known st =
      let run = runs_so_far_are_runs d more m.tries m.finish (λ x b c. false) nothing s s' (e ∷ []) (s', known, st, refl) in
      subst (λ z. Step d more s e z) (sym run.2) run.1

  old_step : (s : St) → MadeAreAnswered answered m s → (e : Event) (s' : St) → Step d old s e s' → Step d more s e s'
  old_step s made (Try n i) s' (w, e, lt, to) =
      let has = made (address n i) w e in (
        w,
        e,
        ltb-true w.tries (more.tries (address n i) w.begun) (sym (knows.goes_on (address n i) w.begun w.tries has.0 has.1)
            ∙ lt-ltb w.tries (m.tries (address n i) w.begun) lt),
        to,
      )
  old_step s made (End n i) s' (w, e, all, to) =
      let has = made (address n i) w e in (
        w,
        e,
        eqb-true w.tries (more.tries (address n i) w.begun) (sym (knows.ends (address n i) w.begun w.tries has.0 has.1)
            ∙ eq-eqb w.tries (m.tries (address n i) w.begun) all),
        to ∙ ap (λ (r : Row). record { rows = place (one n i r) s.rows; running = without n i s.running; opens = s.opens })
            (knows.row (address n i) w.begun s.rows (subst (λ c. came answered (address n i) c ≡ true) all has.1)),
      )
  old_step s made (Start n i) s' st = others s (Start n i) s' tt st
  old_step s made (Skip n i) s' st = others s (Skip n i) s' tt st
  old_step s made (Open n i) s' st = others s (Open n i) s' tt st
  old_step s made (Begin n i) s' st = others s (Begin n i) s' tt st
  old_step s made (Test n i) s' st = others s (Test n i) s' tt st
  old_step s made (Close n i) s' st = others s (Close n i) s' tt st

  module _ (more_answered : Answers) (among : AreAmong answered more_answered) where
    has_more : (s : St) (e : Event) → HasAnswer answered s e → HasAnswer more_answered s e
    has_more s (Try n i) has = λ w e. among (address n i) _ (has w e)
    has_more s (Start n i) has = tt
    has_more s (End n i) has = tt
    has_more s (Skip n i) has = tt
    has_more s (Open n i) has = tt
    has_more s (Begin n i) has = tt
    has_more s (Test n i) has = tt
    has_more s (Close n i) has = tt

    from_there : (s : St) → MadeAreAnswered answered m s → (es : List Event) (s' : St) → AnsweredRun answered d m s es s'
        → AnsweredRun more_answered d more s es s'
    from_there s made [] s' run = run
    from_there s made (e ∷ es) s' run = (
      run.0,
      has_more s e run.1,
      old_step s made e run.0 (subst (λ z. Step d z s e run.0) knows.same run.2),
      from_there run.0 (made_step answered d m s made e run.0 run.1 run.2) es s' run.3,
    )

    pub run_goes_on : (es : List Event) (s : St) → AnsweredRun answered d m fresh es s → AnsweredRun more_answered d more fresh es s
    run_goes_on es s run = from_there fresh (made_at_first answered d m) es s run
