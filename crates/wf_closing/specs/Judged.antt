-- How a graph ended, step by step: which of its actions fail it, where they are judged.
use Rattle.std.specs.Prelude.{ℕ, Bool, false, List, [], ◌∷◌, replicate, set, if◌then◌else◌}
use Rattle.std.specs.List.{list_any}
use Rattle.wf_layers.specs.Address.{Table, address}
use Rattle.wf_record.specs.declared.status.Status.{Status}
use Rattle.wf_record.specs.declared.status.Status.TheVariants.{Succeeded, Failed}
use Rattle.wf_record.specs.Record.{Row}
use Rattle.wf_meant.specs.Status.{judge_row}
use Rattle.wf_closing.specs.Steps.{JudgedTree, StepTree, is_marked}

module _ (at : List ℕ) (known : Table Row) where
  -- marks of those that fail, as steps are taken
  abbrev pub fails_from : List StepTree → List Bool → List Bool
  fails_from [] marks = marks
  fails_from (s ∷ ss) marks =
      fails_from ss (set marks s.number (judge_row (known (address s.number at)) (list_any (is_marked marks) s.after)))

  abbrev pub status_by : JudgedTree → Status
  status_by j =
      if list_any (is_marked (fails_from j.steps (replicate j.size false))) j.ends then Failed else Succeeded
