-- What is written of the runs of these starts, one after the other.
use Rattle.std.specs.Prelude.{◌≡◌, ℕ, Bool, List, Ok}
use Rattle.wf_answers.specs.Inputs.{InputsTree}
use Rattle.wf_def.specs.DefTree.{DefTree}
use Rattle.wf_told.specs.Under.{Told}
use Rattle.wf_prepare.specs.Starts.{StartTree}
use Rattle.wf_told.specs.Records.{records_of, records_within}
use Rattle.wf_told.specs.Runs.{AreTold}
use Rattle.wf_told.specs.Text.{records_left, runs_in_a_row, text_of, total_cost}

module _ (d : DefTree) (inputs : InputsTree) (schedule : List ℕ) (traced : Bool) (starts : List StartTree) where
  -- The text is that of their runs, which cost so much together.
  pub record AreWritten (text : List ℕ) (cost : ℕ) : Type 0 where
    pub runs : List Told
    pub told : AreTold d inputs schedule traced starts runs
    pub text_is : text ≡ runs_in_a_row runs
    pub cost_is : cost ≡ total_cost (records_left runs)

  -- The same, with a line that says so where there are none, and they don't cost too much.
  pub record TellsStarts (text : List ℕ) : Type 0 where
    pub runs : List Told
    pub told : AreTold d inputs schedule traced starts runs
    pub records : records_within (records_of d inputs starts) ≡ Ok (records_left runs)
    pub text_is : text ≡ text_of runs
