-- What is said of a run, turn by turn.
use Rattle.std.proofs.Common.{◌≡◌, ◌∙◌, ℕ, suc, ◌+◌, Bool, true, false, cond, List, [], ◌∷◌, ◌++◌, length, length-append, max, refl, sym, ap, ap₂, subst, arith}
use Rattle.wf_layers.specs.Address.{Address}
use Rattle.wf_layers.specs.Definition.{Graph}
use Rattle.wf_layers.specs.Machine.{Event, Run, State}
use Rattle.wf_layers.specs.Source.{Source}
use Rattle.wf_scheduled.specs.Counts.{AreRunning, HasNotBegun, number_of}
use Rattle.wf_scheduled.specs.Turns.{Turn, Turns}
use Rattle.wf_scheduled.proofs.RunningLemmas.{peak_more, running_counted}
use Rattle.wf_scheduled.proofs.TurnLemmas.{grow, steps_of}
use Rattle.wf_drive.specs.Driven.{Comes}
use Rattle.wf_drive.specs.Lines.{event_line, trace_of}
use Rattle.wf_drive.proofs.TraceLemmas.{trace_more}

module _ {Row Begun Decision Verdict : Type 0} (d : Graph) (m : Source Row Begun Decision Verdict) (told : Event → ℕ → List ℕ)
    (schedule : List ℕ) (first : State Row Begun Decision Verdict) where
  -- before the first turn
  pub begins : (traced : Bool) (trace : List ℕ) → trace ≡ [] → Comes d m told schedule first first 0 0 traced trace
  begins traced trace none = record {
    events = [];
    turns = refl;
    steps_are = refl;
    peak_is = refl;
    trace_is = none ∙ no_lines traced;
  }
    where
      no_lines : (b : Bool) → [] ≡ cond b (trace_of told []) []
      no_lines true = refl
      no_lines false = refl

  -- and behind a further one
  module _ (s s' : State Row Begun Decision Verdict) (steps most : ℕ) (traced : Bool) (trace : List ℕ) (e : Event)
      (c : Comes d m told schedule first s steps most traced trace) (t : Turn d m schedule steps s e s') where
    abbrev all : List Event
    all = c.events ++ e ∷ []

    turned : Turns d m schedule 0 first all s'
    turned =
        grow d m schedule 0 first s s' c.events e c.turns
        (subst (λ k. Turn d m schedule k s e s') (c.steps_are ∙ none_more (length c.events)) t)
      where
        none_more : (k : ℕ) → k ≡ 0 + k
        none_more k = omega arith

    pub run_before : Run d m first c.events s
    run_before = steps_of d m schedule 0 first s c.events c.turns

    next_line : (traced' : Bool) (new : List ℕ) (number : ℕ) → number ≡ steps + 1 → trace ≡ cond traced' (trace_of told c.events) []
        → new ≡ trace ++ cond traced' (event_line number (told e (number_of c.events e))) [] → new ≡ cond traced' (trace_of told all) []
    next_line true new number next so_far more =
        let same : number ≡ suc (length c.events) = let counted = c.steps_are in omega (arith, next, counted) in
        more
        ∙ (ap₂ (λ text k. text ++ event_line k (told e (number_of c.events e))) so_far same
        ∙ sym (trace_more told c.events e))
    next_line false new number next so_far more = more ∙ ap (λ text. text ++ []) so_far

    pub goes_on : HasNotBegun first → (steps' most' running : ℕ) (new : List ℕ) → steps' ≡ steps + 1
        → (places : List Address) × AreRunning s' places × (running ≡ length places) → most' ≡ max most running
        → new ≡ trace ++ cond traced (event_line steps' (told e (number_of c.events e))) []
        → Comes d m told schedule first s' steps' most' traced new
    goes_on begun steps' most' running new next (places, are, count) greatest more = record {
      events = all;
      turns = turned;
      steps_are =
          let longer = length-append c.events (e ∷ []) in let counted = c.steps_are in omega (arith, next, longer, counted);
      peak_is =
          greatest
          ∙ (ap₂ max c.peak_is (count ∙ running_counted d m first s' all begun (steps_of d m schedule 0 first s' all turned) places are)
          ∙ sym (peak_more 0 c.events e));
      trace_is = next_line traced new steps' next c.trace_is more;
    }
