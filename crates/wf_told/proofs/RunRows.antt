-- Worked rows of runs: of a definition without actions.
use Rattle.std.proofs.Common.{◌≡◌, ℕ, Bool, true, false, cond, List, [], ◌∷◌, None, Ok, length, ap, codes, lit≤, refl, sym, ◌∙◌}
use Rattle.std.proofs.lemmas.Option.{none-some}
use Rattle.wf_layers.specs.Definition.{Graph, Kind, Need, done}
use Rattle.wf_layers.specs.Machine.{Event, Start, Try, End, Skip, Open, Begin, Test, Close, fresh, In, IsOpen, top, scope, chosen}
use Rattle.wf_layers.specs.Machine.{IsOver, IsThere, round, State, turn}
use Rattle.wf_layers.specs.Source.{Source}
use Rattle.wf_scheduled.specs.Turns.{IsRun}
use Rattle.wf_def.specs.ActionTree.{no_actions}
use Rattle.wf_def.specs.DefTree.{DefTree}
use Rattle.wf_answers.specs.Inputs.{InputsTree}
use Rattle.wf_prepare.specs.Environment as begun_by
use Rattle.wf_prepare.specs.Environment.{Environment}
use Rattle.wf_record.specs.declared.status.RunStatus.{RunStatus}
use Rattle.wf_prepare.specs.Starts.{StartTree}
use Rattle.wf_val.specs.ValueTree.{members, null, object}
use Rattle.wf_prepare.specs.Record.{meaning}
use Rattle.wf_prepare.specs.Source.{source}
use Rattle.wf_told.specs.Measured.{IsMeasured, StartsAlone}
use Rattle.wf_told.specs.Under.{IsRunUnder, lines_of, Told}

-- ---- where a definition has no action, nothing may happen

module _ {Row Begun Decision Verdict : Type 0} (m : Source Row Begun Decision Verdict) where
  abbrev first : State Row Begun Decision Verdict
  first = fresh

  none_open : (g : Graph) (i : List ℕ) (n : ℕ) (after : List Need) (kind : Kind) → IsOpen m.taken done first.opens g i → In g n after kind
      → ⊥
  none_open _ _ n after kind top inside = elim inside [ ]
  none_open _ _ n after kind (scope {w = w} o st is) inside = none-some w is
  none_open _ _ n after kind (chosen {w = w} o st is at) inside = none-some w is
  none_open _ _ n after kind (turn {w = w} j o st is lt) inside = none-some w is
  none_open _ _ n after kind (round {w = w} j o st is lt) inside = none-some w is

  none_there : (n : ℕ) (i : List ℕ) (after : List Need) (kind : Kind) → IsThere done m first n i after kind → ⊥
  none_there n i after kind there = none_open there.graph i n after kind there.is_open there.is_in

  is_over : IsOver done m first
  is_over (Start n i) s' (after, decided, gate, goes) = none_there n i after _ decided.is_there
  is_over (Try n i) s' (w, is, few, goes) = none-some w is
  is_over (End n i) s' (w, is, all, goes) = none-some w is
  is_over (Skip n i) s' (after, kind, decided, gate, goes) = none_there n i after kind decided.is_there
  is_over (Open n i) s' (after, kind, holds, decided, gate, goes) = none_there n i after kind decided.is_there
  is_over (Begin n i) s' (after, kind, w, there, is, may, goes) = none-some w is
  is_over (Test n i) s' (after, kind, w, j, there, is, may, goes) = none-some w is
  is_over (Close n i) s' (after, kind, w, there, is, may, goes) = none-some w is

  -- so no run of it has an event
  no_event : (schedule : List ℕ) (es : List Event) → IsRun done m schedule first es → es ≡ []
  no_event schedule [] run = refl
  no_event schedule (e ∷ es) run = absurd (is_over e run.turns.0 run.turns.1.goes)

-- ---- what is told of it

abbrev nothing : DefTree
nothing = record { digest = []; parameters = []; given = []; triggers = []; top = no_actions; outputs = [] }

module _ (e : Environment) (schedule : List ℕ) where
  -- its record is its meaning; no step, no leaf that runs, and no line, also where lines are asked for
  its_run : (traced : Bool) → IsRunUnder nothing e schedule traced
      (record { events = []; left = meaning nothing e; steps = 0; peak = 0 })
  its_run traced = record {
    events = [];
    run = record { last = fresh; turns = refl; over = is_over (source nothing e) };
    left_is = refl;
    steps_are = refl;
    peak_is = refl;
    lines_are = no_lines traced;
  }
    where
      no_lines : (b : Bool) → [] ≡ cond b (lines_of nothing e []) []
      no_lines true = refl
      no_lines false = refl

  -- nothing else is told of it: neither a step more, nor a line, nor another record
  no_other_steps : (traced : Bool) (t : Told) → IsRunUnder nothing e schedule traced t → t.steps ≡ 0
  no_other_steps traced t r = r.steps_are ∙ ap length (no_event (source nothing e) schedule r.events r.run)

  one_step_too_many : (traced : Bool) → IsRunUnder nothing e schedule traced
      (record { events = []; left = meaning nothing e; steps = 1; peak = 0 }) → ⊥
  one_step_too_many traced r = absurd (cc (no_other_steps traced (record { events = []; left = meaning nothing e; steps = 1; peak = 0 }) r))

  no_other_record : (traced : Bool) (t : Told) → IsRunUnder nothing e schedule traced t → t.left ≡ meaning nothing e
  no_other_record traced t r = r.left_is

-- ---- its figures

abbrev inputs : InputsTree
inputs = record { run = codes "r1"; seed = codes "s"; moment = 0; trigger = None; outputs = null; parameters = []; answers = [] }

abbrev begins : StartTree
begins = record {
  run = codes "r1";
  seed = codes "s";
  trigger = object (members ((codes "name", null) ∷ (codes "outputs", null) ∷ []));
  parameters = [];
}

-- no row, no event and no leaf, under any schedule; and it succeeds
its_figures : (schedule : List ℕ) → IsMeasured nothing inputs schedule
    (record { rows = 0; status = RunStatus.Succeeded; steps = 0; peak = 0 })
unfolding meaning
its_figures schedule = record {
  start = begins;
  run = record { events = []; left = meaning nothing (begun_by.fresh begins inputs); steps = 0; peak = 0 };
  starts = refl;
  told = its_run (begun_by.fresh begins inputs) schedule false;
  small = lit≤ tt;
  figures = record { rows_are = refl; status_is = refl; steps_are = refl; peak_is = refl };
}

-- one run starts
starts_one : StartsAlone nothing inputs
starts_one starts is =
    let one : Ok (begins ∷ []) ≡ Ok starts = is in let same : begins ∷ [] ≡ starts = cc in ap length (sym same)
