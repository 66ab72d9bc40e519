-- A RUN UNDER A SCHEDULE, and what is told of it.
use Rattle.std.specs.Prelude.{◌≡◌, ℕ, Bool, List, [], cond, length}
use Rattle.wf_layers.specs.Machine.{Event, fresh}
use Rattle.wf_scheduled.specs.Counts.{peak}
use Rattle.wf_scheduled.specs.Turns.{IsRun}
use Rattle.wf_drive.specs.Lines.{trace_of}
use Rattle.wf_def.specs.DefTree.{DefTree}
use Rattle.wf_prepare.specs.Environment.{Environment}
use Rattle.wf_record.specs.Record.{RecordTree}
use Rattle.wf_prepare.specs.Points.{graph_of}
use Rattle.wf_prepare.specs.Record.{depth_of, meaning}
use Rattle.wf_prepare.specs.Source.{source, table_of}
use Rattle.wf_trace.specs.Told as trace

-- What is told of a run: the lines of its events where they are asked for, the record that it left, how many steps it took, and how many
-- leaves were running at a time at most.
pub record Told : Type 0 where
  pub events : List ℕ
  pub left : RecordTree
  pub steps : ℕ
  pub peak : ℕ

-- the line of each event, in turn
abbrev pub lines_of : DefTree → Environment → List Event → List ℕ
lines_of d e es = trace_of (trace.told d (source d e) (table_of d e (depth_of d))) es

-- THE RUN of a definition in an environment: from the state of a run that begins, each turn takes the event that the schedule has for it,
-- until none may happen. All but the record is told by these events; the record is the definition's meaning, whatever they are.
pub record IsRunUnder (d : DefTree) (e : Environment) (schedule : List ℕ) (traced : Bool) (t : Told) : Type 0 where
  pub events : List Event
  pub run : IsRun (graph_of d) (source d e) schedule fresh events
  pub left_is : t.left ≡ meaning d e
  pub steps_are : t.steps ≡ length events
  pub peak_is : t.peak ≡ peak events
  pub lines_are : t.events ≡ cond traced (lines_of d e events) []
