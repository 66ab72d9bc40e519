-- WHAT IS ASKED of the record that is resubmitted, and of the actions that it is resubmitted from (`wf_resubmit`).
use Rattle.std.specs.Prelude.{◌≡◌, ℕ, List, [], None, true}
use Rattle.wf_layers.specs.Address.{address}
use Rattle.wf_def.specs.DefTree.{DefTree}
use Rattle.wf_standing.specs.Whole.{order_in}
use Rattle.wf_record.specs.Record.{RecordTree, find_row}
use Rattle.wf_turns.specs.Look.{instance}
use Rattle.wf_turns.specs.Points.{graph_of}
use Rattle.wf_turns.specs.Resubmitted.{is_chosen}
use Rattle.wf_resubmit.specs.Chosen.{MayBeRedone}
use Rattle.wf_resubmit.specs.Refused.{has_run, refused}

-- the record isn't refused to be resubmitted from the actions of these names
abbrev pub IsAccepted : DefTree → RecordTree → List (List ℕ) → Type 0
IsAccepted d r names =
    refused d.top (order_in d) (record { bytes = d.digest }) (record { bytes = r.digest }) r.rows names ≡ None

-- in other words, of the actions' numbers: they are there, none stands in a loop, and each has a row in the record that isn't Skipped
pub record IsAskedOf (d : DefTree) (r : RecordTree) (from : List ℕ) : Type 0 where
  pub may : MayBeRedone (graph_of d) from
  pub ran : (n : ℕ) → is_chosen from n ≡ true → has_run (find_row (instance d (address n [])) r.rows) ≡ true
