-- What is told of the runs of a definition that start with inputs, each under the same schedule.
use Rattle.std.specs.Prelude.{◌≡◌, ℕ, Bool, List, [], ◌∷◌, Ok}
use Rattle.wf_answers.specs.Inputs.{InputsTree}
use Rattle.wf_def.specs.DefTree.{DefTree}
use Rattle.wf_prepare.specs.Environment.{fresh}
use Rattle.wf_told.specs.Under.{IsRunUnder, Told}
use Rattle.wf_prepare.specs.Starts.{StartTree}
use Rattle.wf_told.specs.Records.{runs_records, starts_of}
use Rattle.wf_told.specs.Text.{records_left, text_of}

-- Each start has its run, in turn. Each run begins the schedule anew, in the environment of a run that isn't made from another.
abbrev pub AreTold : DefTree → InputsTree → List ℕ → Bool → List StartTree → List Told → Type 0
AreTold d inputs schedule traced [] [] = Unit {0}
AreTold d inputs schedule traced (start ∷ starts) (t ∷ ts) =
    IsRunUnder d (fresh start inputs) schedule traced t × AreTold d inputs schedule traced starts ts
AreTold d inputs schedule traced [] (t ∷ ts) = ⊥
AreTold d inputs schedule traced (start ∷ starts) [] = ⊥

-- THE TEXT of the runs that the inputs start: of each its events where it is traced, its record and how it went. They don't cost too much.
pub record TellsRuns (d : DefTree) (inputs : InputsTree) (schedule : List ℕ) (traced : Bool) (text : List ℕ) : Type 0 where
  pub starts : List StartTree
  pub runs : List Told
  pub start : starts_of d inputs ≡ Ok starts
  pub told : AreTold d inputs schedule traced starts runs
  pub records : runs_records d inputs ≡ Ok (records_left runs)
  pub text_is : text ≡ text_of runs
