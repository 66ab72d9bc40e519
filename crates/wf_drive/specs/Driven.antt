-- WHAT IS SAID OF A RUN beside what it leaves: how many events it had, how many leaves were running at a time at most, and its lines.
use Rattle.std.specs.Prelude.{◌≡◌, ℕ, Bool, List, [], cond, length}
use Rattle.wf_layers.specs.Definition.{Graph}
use Rattle.wf_layers.specs.Machine.{Event, IsOver, State}
use Rattle.wf_layers.specs.Source.{Source}
use Rattle.wf_kept.specs.Taken.{HasTaken}
use Rattle.wf_scheduled.specs.Counts.{HasNotBegun, peak}
use Rattle.wf_scheduled.specs.Turns.{Turns}
use Rattle.wf_drive.specs.Lines.{trace_of}

module _ {Row Begun Decision Verdict : Type 0} (d : Graph) (m : Source Row Begun Decision Verdict) where
  -- The first state of a run: nothing is running, no iteration has begun, and no event has been taken.
  pub record IsFirst (depth : ℕ → ℕ) (s : State Row Begun Decision Verdict) : Type 0 where
    pub not_begun : HasNotBegun s
    pub none_taken : HasTaken d depth m s 0

  -- Turns under the schedule lead from a state to another, and of their events this is said; the lines where they are asked for.
  pub record Comes (told : Event → ℕ → List ℕ) (schedule : List ℕ) (first last : State Row Begun Decision Verdict) (steps most : ℕ)
      (traced : Bool) (trace : List ℕ) : Type 0 where
    pub events : List Event
    pub turns : Turns d m schedule 0 first events last
    pub steps_are : steps ≡ length events
    pub peak_is : most ≡ peak events
    pub trace_is : trace ≡ cond traced (trace_of told events) []

  -- THE RUN under the schedule, which ends where nothing may happen any more.
  pub record IsDriven (told : Event → ℕ → List ℕ) (schedule : List ℕ) (first last : State Row Begun Decision Verdict) (steps most : ℕ)
      (traced : Bool) (trace : List ℕ) : Type 0 where
    pub comes : Comes told schedule first last steps most traced trace
    pub over : IsOver d m last
