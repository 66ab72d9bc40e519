-- WHAT A RESUBMISSION BEGINS WITH: of a record and of the numbers of the actions from which it is resubmitted.
use Rattle.std.specs.Prelude.{ℕ, List}
use Rattle.wf_layers.specs.Machine.{State}
use Rattle.wf_layers.specs.Redo.{closed_again, redone}
use Rattle.wf_layers.specs.Resubmission.{resumed}
use Rattle.wf_def.specs.DefTree.{DefTree}
use Rattle.wf_record.specs.Record.{RecordTree, Row}
use Rattle.wf_opening.specs.Decisions.{DecisionTree}
use Rattle.wf_opening.specs.Verdicts.{VerdictTree}
use Rattle.wf_turns.specs.Leaf.{BegunTree}
use Rattle.wf_turns.specs.Points.{graph_of}
use Rattle.wf_turns.specs.Record.{depth_of}
use Rattle.wf_turns.specs.Resubmitted.{is_chosen, recalled, rows_by}

-- rows that are neither redone nor closed again are there, and what is closed again is open, with what its row says that it had decided
abbrev pub first_state : DefTree → RecordTree → List ℕ → State Row BegunTree DecisionTree VerdictTree
first_state d r from =
    resumed (graph_of d) (redone (graph_of d) (depth_of d) (is_chosen from)) (closed_again (graph_of d) (depth_of d) (is_chosen from))
    (rows_by d r.rows) (recalled d r.rows)
