-- WHAT IS ASKED OF AN OLDER RUN'S ROWS, so that a resubmission may go on from them.
use Rattle.std.specs.Prelude.{ℕ, Bool, List}
use Rattle.wf_layers.specs.Redo.{closed_again, redone}
use Rattle.wf_layers.specs.Resubmission.{IsOldTable, kept}
use Rattle.wf_def.specs.DefTree.{DefTree}
use Rattle.wf_answers.specs.Inputs.{InputsTree}
use Rattle.wf_record.specs.Record.{RecordTree}
use Rattle.wf_meant_laws.specs.Points.{graph_of}
use Rattle.wf_meant_laws.specs.Record.{depth_of}
use Rattle.wf_meant_laws.specs.Resubmitted.{is_chosen, recalled, resubmitted, rows_by}
use Rattle.wf_meant_laws.specs.Source.{source}
use Rattle.wf_meant_laws.specs.Answered.{GiveWhatTheyWrite}
use Rattle.wf_meant_laws.specs.Tables.{AreWhole}

-- what is redone from the actions of these numbers, what is closed again, and of what the rows are kept
module _ (d : DefTree) (from : List ℕ) where
  abbrev pub redoes : ℕ → Bool
  redoes = redone (graph_of d) (depth_of d) (is_chosen from)

  abbrev pub recloses : ℕ → Bool
  recloses = closed_again (graph_of d) (depth_of d) (is_chosen from)

  abbrev pub keeps : ℕ → Bool
  keeps = kept redoes recloses

-- The rows are whole and give what they write, as those of a run are; and they are a table that the laws of resubmission go on from.
pub record MayGoOn (d : DefTree) (r : RecordTree) (i : InputsTree) (from : List ℕ) : Type 0 where
  pub whole : AreWhole d (rows_by d r.rows)
  pub given : GiveWhatTheyWrite d (rows_by d r.rows)
  pub table : IsOldTable (graph_of d) (source d (resubmitted r i)) (redoes d from) (recloses d from) (rows_by d r.rows)
      (recalled d r.rows)
