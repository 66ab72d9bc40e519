-- A run that was driven to its end, of a definition, whatever it was made from.
use Rattle.std.proofs.Common.{◌≡◌, ◌≤◌, ℕ, Bool, false, List, refl, ap, subst, ◌∙◌}
use Rattle.wf_layers.specs.Machine.{fresh}
use Rattle.wf_scheduled.specs.Turns.{Turns}
use Rattle.wf_drive.specs.Driven.{IsDriven}
use Rattle.wf_def.specs.DefTree.{DefTree}
use Rattle.wf_answers.specs.Inputs.{InputsTree}
use Rattle.wf_environment.specs.Environment.{Environment}
use Rattle.wf_record.specs.Cost.{cost}
use Rattle.wf_record.specs.Record.{RecordTree}
use Rattle.wf_runnable.specs.Answering.{RowSource, table_by}
use Rattle.wf_runnable.specs.Points.{graph_of}
use Rattle.wf_runnable.specs.Record.{record_of_table}
use Rattle.wf_runnable.specs.Record as meant
use Rattle.wf_runnable.specs.Resubmitted.{pinned, pinned_source, resubmitted}
use Rattle.wf_runnable.specs.Source as sources
use Rattle.wf_told.specs.Told as trace
use Rattle.wf_told.specs.Resubmissions.{IsResubmittedUnder, resumed_state}
use Rattle.wf_told.specs.Under.{IsRunUnder}
use Rattle.wf_runnable.specs.Acting.{ActFor}
use Rattle.wf_runnable.specs.Meant as acting
use Rattle.wf_runnable.specs.Order.{CostsWhatItMeans}
use Rattle.wf_runnable.specs.Meant.{definition_of, environment_of}
use Rattle.wf_runnable.specs.Actions.{Actions}
use Rattle.wf_runnable.specs.Over.{Moment}
use Rattle.wf_run.specs.Made.{IsMade, price}

-- by actions that act for a definition in an environment, by some source
module _ (d : DefTree) (e : Environment) (m : RowSource) (a : Actions) (act : ActFor a d e m) where
  driven_by : (schedule : List ℕ) (first last : Moment) (steps most : ℕ) (traced : Bool) (lines : List ℕ)
      → IsDriven (acting.graph a) (acting.source a) (acting.told a) schedule first last steps most traced lines
      → IsDriven (graph_of d) m (trace.told d m (table_by d m)) schedule first last steps most traced lines
  driven_by schedule first last steps most traced lines driven =
      subst (λ q. IsDriven (graph_of q) m (trace.told q m (table_by q m)) schedule first last steps most traced lines) act.definition
      (subst (λ s. IsDriven (acting.graph a) s (trace.told (definition_of a) s (table_by (definition_of a) s)) schedule first last steps most
      traced lines) act.by_source driven)

  -- what it costs
  pub costs_so : CostsWhatItMeans a → price a ≤ cost (record_of_table d e (table_by d m))
  costs_so few =
      subst (λ r. price a ≤ cost r)
      (ap (λ q. record_of_table q (environment_of a) (table_by q (acting.source a))) act.definition
      ∙ ap (λ f. record_of_table d f (table_by d (acting.source a))) act.environment
      ∙ ap (λ s. record_of_table d e (table_by d s)) act.by_source) few

-- where it isn't made from another, it is the run under the schedule
pub run_is : (d : DefTree) (e : Environment) (a : Actions) → ActFor a d e (sources.source d e)
    → (schedule : List ℕ) (first : Moment) (steps most : ℕ) (traced : Bool) (lines : List ℕ)
    → first ≡ fresh → IsMade a first schedule traced steps most lines
    → IsRunUnder d e schedule traced (record { events = lines; left = meant.meaning d e; steps = steps; peak = most })
run_is d e a act schedule first steps most traced lines begins made =
    let driven = driven_by d e (sources.source d e) a act schedule first made.last steps most traced lines made.driven in
    record {
      events = driven.comes.events;
      run = record {
        last = made.last;
        turns = subst (λ s. Turns (graph_of d) (sources.source d e) schedule 0 s driven.comes.events made.last) begins driven.comes.turns;
        over = driven.over;
      };
      left_is = refl;
      steps_are = driven.comes.steps_are;
      peak_is = driven.comes.peak_is;
      lines_are = driven.comes.trace_is;
    }

-- and where it is made from an older one, it is the resubmission
pub resubmission_is : (d : DefTree) (e : Environment) (r : RecordTree) (i : InputsTree) (from : List ℕ) (a : Actions)
    → ActFor a d e (pinned_source d r i from) → (schedule : List ℕ) (first : Moment)
    (steps most : ℕ) (lines : List ℕ) → first ≡ resumed_state d r from → IsMade a first schedule false steps most lines
    → IsResubmittedUnder d r i from schedule (record { events = lines; left = pinned d r i from; steps = steps; peak = most })
resubmission_is d e r i from a act schedule first steps most lines begins made =
    let m = pinned_source d r i from in
    let driven = driven_by d e m a act schedule first made.last steps most false lines made.driven in
    record {
      events = driven.comes.events;
      run = record {
        last = made.last;
        turns = subst (λ s. Turns (graph_of d) m schedule 0 s driven.comes.events made.last) begins driven.comes.turns;
        over = driven.over;
      };
      left_is = refl;
      steps_are = driven.comes.steps_are;
      peak_is = driven.comes.peak_is;
      lines_are = driven.comes.trace_is;
    }

-- the record of what a resubmission means is that of its rows
pub pinned_is : (d : DefTree) (r : RecordTree) (i : InputsTree) (from : List ℕ)
    → record_of_table d (resubmitted r i) (table_by d (pinned_source d r i from)) ≡ pinned d r i from
unfolding pinned
pinned_is d r i from = refl
