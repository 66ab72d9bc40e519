-- WHAT A LINE HAS TO BE: where what stands at the instance of an event is what the event has made, whatever its number in the run is, the
-- line is what the definition means to be told of it.
use Rattle.std.specs.Prelude.{◌≡◌, ℕ, List, Option}
use Rattle.wf_layers.specs.Machine.{Event}
use Rattle.wf_scheduled.specs.Happened.{HasHappened}
use Rattle.wf_def.specs.DefTree.{DefTree}
use Rattle.wf_record.specs.Record.{Row}
use Rattle.wf_doing.specs.Environment.{Environment}
use Rattle.wf_doing.specs.Answering.{AnswersAs, RowSource, table_by}
use Rattle.wf_making.specs.Standing.{standing}
use Rattle.wf_trace.specs.Told.{told}
use Rattle.wf_telling.specs.Lines.{Container, Leaf}

module _ (d : DefTree) (e : Environment) where
  -- by whatever source the definition answers in the environment
  abbrev pub IsTold : Option Row → Option Leaf → Option Container → Event → List ℕ → Type 0
  IsTold row leaf container event line =
      (m : RowSource) → AnswersAs d e m → (number : ℕ) → HasHappened m (table_by d m) (standing row leaf container) event number
      → line ≡ told d m (table_by d m) event number
