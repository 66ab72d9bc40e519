-- Runs of a definition without actions: they have no event, whatever the schedule.
use Rattle.std.proofs.Common.{◌≡◌, ℕ, Bool, true, false, List, [], ◌∷◌, None, Ok, cond, length, map}
use Rattle.std.proofs.Common.{refl, sym, ap, ◌∙◌, subst}
use Rattle.std.proofs.lemmas.Option.{none-some}
use Rattle.wf_answers.specs.Inputs.{InputsTree}
use Rattle.wf_def.specs.DefTree.{DefTree}
use Rattle.wf_prepare.specs.Environment.{Environment, fresh}
use Rattle.wf_layers.specs.Definition.{Graph, Kind, Need, done}
use Rattle.wf_layers.specs.Address.{Table}
use Rattle.wf_layers.specs.Machine as machine
use Rattle.wf_layers.specs.Machine.{Event, Start, Try, End, Skip, Open, Begin, Test, Close, In, IsOpen, IsOver, IsThere, State, Step}
use Rattle.wf_layers.specs.Source.{Source}
use Rattle.wf_prepare.specs.Points.{graph_of}
use Rattle.wf_prepare.specs.Record.{meaning}
use Rattle.wf_prepare.specs.Source.{source}
use Rattle.wf_record.specs.Record.{RecordTree}
use Rattle.wf_told.specs.Under.{IsRunUnder, Told, lines_of}
use Rattle.wf_scheduled.specs.Counts.{peak}
use Rattle.wf_scheduled.specs.Turns.{IsRun, Turns}
use Rattle.wf_prepare.specs.Starts.{StartTree}
use Rattle.wf_told.specs.Records.{records_of, runs_records, starts_of}
use Rattle.wf_told.specs.Runs.{AreTold, TellsRuns}
use Rattle.wf_told.specs.Text.{text_of}
use Rattle.wf_told.proofs.RunLemmas.{same-runs, started}
use Rattle.wf_told.proofs.WrittenLemmas.{records-told}

module _ {Row Begun Decision Verdict : Type 0} (m : Source Row Begun Decision Verdict) (rows : Table Row) where
  -- a state with rows, in which nothing runs and no container is open: a run begins with one of no rows
  abbrev begun : State Row Begun Decision Verdict
  begun = record { rows = rows; running = λ x. None; opens = λ x. None }

  -- only the empty graph at the top is open, and no action stands in it
  only_top : (g : Graph) (i : List ℕ) → IsOpen m.taken done begun.opens g i → g ≡ done
  only_top g i IsOpen.top = refl
  only_top g i (IsOpen.scope {w = w} o t is) = absurd (none-some w is)
  only_top g i (IsOpen.chosen {w = w} o t is b) = absurd (none-some w is)
  only_top g i (IsOpen.turn {w = w} j o t is lt) = absurd (none-some w is)
  only_top g i (IsOpen.round {w = w} j o t is lt) = absurd (none-some w is)

  none_in : (n : ℕ) (after : List Need) (kind : Kind) → In done n after kind → ⊥
  none_in n after kind t = elim t [ ]

  not_there : (n : ℕ) (i : List ℕ) (after : List Need) (kind : Kind) → IsThere done m begun n i after kind → ⊥
  not_there n i after kind t =
      none_in n after kind (subst (λ g. In g n after kind) (only_top t.graph i t.is_open) t.is_in)

  nothing_may : IsOver done m begun
  nothing_may (Start n i) s' (after, decided, open', to) = not_there n i after Kind.Leaf decided.is_there
  nothing_may (Try n i) s' (w, is, more, to) = none-some w is
  nothing_may (End n i) s' (w, is, all, to) = none-some w is
  nothing_may (Skip n i) s' (after, kind, decided, shut, to) = not_there n i after kind decided.is_there
  nothing_may (Open n i) s' (after, kind, holds, decided, open', to) = not_there n i after kind decided.is_there
  nothing_may (Begin n i) s' (after, kind, w, there', is, may, to) = none-some w is
  nothing_may (Test n i) s' (after, kind, w, j, there', is, may, to) = none-some w is
  nothing_may (Close n i) s' (after, kind, w, there', is, may, to) = none-some w is

  pub no_event : (schedule : List ℕ) (es : List Event) → IsRun done m schedule begun es → es ≡ []
  no_event schedule es run = go es run.turns
    where
      go : (es : List Event) → Turns done m schedule 0 begun es run.last → es ≡ []
      go [] turns = refl
      go (e ∷ es) (mid, t, later) = absurd (nothing_may e mid t.goes)

  pub idle_turns : (schedule : List ℕ) → IsRun done m schedule begun []
  idle_turns schedule = record { last = begun; turns = refl; over = nothing_may }

-- what is told of a run that left this record and had no event
abbrev pub idle : RecordTree → Told
idle r = record { events = []; left = r; steps = 0; peak = 0 }

pub told_by : (t : Told) (r : RecordTree) → t.events ≡ [] → t.left ≡ r → t.steps ≡ 0 → t.peak ≡ 0 → t ≡ idle r
told_by t r events left steps peak =
    ap (λ es. record { events = es; left = t.left; steps = t.steps; peak = t.peak }) events
    ∙ ap (λ l. record { events = []; left = l; steps = t.steps; peak = t.peak }) left
    ∙ ap (λ n. record { events = []; left = r; steps = n; peak = t.peak }) steps
    ∙ ap (λ n. record { events = []; left = r; steps = 0; peak = n }) peak

module _ (d : DefTree) (empty : graph_of d ≡ done) where
  either_way : (traced : Bool) → [] ≡ cond {A = List ℕ} traced [] []
  either_way true = refl
  either_way false = refl

  idle_run : (e : Environment) (schedule : List ℕ) (traced : Bool) → IsRunUnder d e schedule traced (idle (meaning d e))
  idle_run e schedule traced = record {
    events = [];
    run = subst (λ g. IsRun g (source d e) schedule machine.fresh []) (sym empty) (idle_turns (source d e) (λ x. None) schedule);
    left_is = refl;
    steps_are = refl;
    peak_is = refl;
    lines_are = either_way traced;
  }

  only_idle : (e : Environment) (schedule : List ℕ) (traced : Bool) (t : Told) → IsRunUnder d e schedule traced t
      → t ≡ idle (meaning d e)
  only_idle e schedule traced t run =
      let none : run.events ≡ [] =
      no_event (source d e) (λ x. None) schedule run.events (subst (λ g. IsRun g (source d e) schedule machine.fresh run.events) empty run.run) in
      told_by t (meaning d e)
      (run.lines_are ∙ ap (λ es. cond traced (lines_of d e es) []) none ∙ sym (either_way traced)) run.left_is
      (run.steps_are ∙ ap length none) (run.peak_is ∙ ap peak none)

  module _ (i : InputsTree) (schedule : List ℕ) (traced : Bool) (starts : List StartTree) (is : starts_of d i ≡ Ok starts) where
    abbrev idle_runs : List StartTree → List Told
    idle_runs ss = map (λ s. idle (meaning d (fresh s i))) ss

    idle_told : (ss : List StartTree) → AreTold d i schedule traced ss (idle_runs ss)
    idle_told [] = tt
    idle_told (s ∷ ss) = (idle_run (fresh s i) schedule traced, idle_told ss)

    -- The text of these is told, if they don't cost too much,
    pub idle_tells : runs_records d i ≡ Ok (records_of d i starts) → TellsRuns d i schedule traced (text_of (idle_runs starts))
    idle_tells fine = record {
      starts = starts;
      runs = idle_runs starts;
      start = is;
      told = idle_told starts;
      records =
          fine ∙ ap Ok (sym (records-told d i schedule traced starts (idle_runs starts) (idle_told starts)));
      text_is = refl;
    }

    -- and no other.
    pub only_idle_text : (text : List ℕ) → TellsRuns d i schedule traced text → text ≡ text_of (idle_runs starts)
    only_idle_text text tells =
        let told = subst (λ ss. AreTold d i schedule traced ss tells.runs) (started d i schedule traced tells.starts starts tells.start is)
        tells.told in
        tells.text_is
        ∙ ap text_of (same-runs d i schedule traced
        (λ e t u first second. only_idle e schedule traced t first ∙ sym (only_idle e schedule traced u second)) starts tells.runs
        (idle_runs starts) told (idle_told starts))
