-- What is known of the rows of a run, whether they are those of a meaning or of a record that was resubmitted.
use Rattle.std.specs.Prelude.{◌≡◌, ◌<◌, ℕ, List, Some}
use Rattle.wf_layers.specs.Address.{Address, Table}
use Rattle.wf_seen_laws.specs.DefTree.{DefTree}
use Rattle.wf_seen_laws.specs.Turns.{IsInstance}
use Rattle.wf_record.specs.Record.{Row}
use Rattle.wf_seen_laws.specs.Laws.{IsInTurnOf}
use Rattle.wf_instance.specs.Points.{graph_of}
use Rattle.wf_instance.specs.Rows.{turns_at}

-- each row stands at an instance
abbrev pub StandAtInstances : DefTree → Table Row → Type 0
StandAtInstances d rows = (x : Address) (row : Row) → rows x ≡ Some row → IsInstance (graph_of d) x

-- and in an iteration of each loop round it that the loop's own row tells of
abbrev pub LoopsTell : DefTree → Table Row → Type 0
LoopsTell d rows =
    (x : Address) (row : Row) → rows x ≡ Some row → (l : ℕ) (outer at : List ℕ) (turn : ℕ)
    → IsInTurnOf (graph_of d) x l outer at turn → turn < turns_at d rows l at

pub record AreWhole (d : DefTree) (rows : Table Row) : Type 0 where
  pub instances : StandAtInstances d rows
  pub loops : LoopsTell d rows
