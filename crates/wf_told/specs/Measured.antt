-- HOW A RUN WENT, in figures: how many rows its record has, how it ended, how many events it had, and how many leaves were running at a
-- time at most.
use Rattle.std.specs.Prelude.{◌≡◌, ℕ, ◌≤◌, false, List, [], ◌∷◌, length, Ok}
use Rattle.wf_answers.specs.Inputs.{InputsTree}
use Rattle.wf_def.specs.DefTree.{DefTree}
use Rattle.wf_prepare.specs.Environment.{fresh}
use Rattle.wf_record.specs.Cost.{cost}
use Rattle.wf_prepare.specs.Starts.{StartTree}
use Rattle.wf_told.specs.Records.{starts_of}
use Rattle.wf_told.specs.Under.{IsRunUnder, Told}
use Rattle.wf_told.specs.declared.measure.Measure.{Measure}

-- The figures are those of what is told of a run.
pub record Measures (t : Told) (m : Measure) : Type 0 where
  pub rows_are : m.rows ≡ length t.left.rows
  pub status_is : m.status ≡ t.left.status
  pub steps_are : m.steps ≡ t.steps
  pub peak_is : m.peak ≡ t.peak

-- Where any run starts with the inputs, it is one.
abbrev pub StartsAlone : DefTree → InputsTree → Type 0
StartsAlone d inputs = (starts : List StartTree) → starts_of d inputs ≡ Ok starts → length starts ≡ 1

-- THE FIGURES of the one run that starts with the inputs, under a schedule. It doesn't cost too much.
pub record IsMeasured (d : DefTree) (inputs : InputsTree) (schedule : List ℕ) (m : Measure) : Type 0 where
  pub start : StartTree
  pub run : Told
  pub starts : starts_of d inputs ≡ Ok (start ∷ [])
  pub told : IsRunUnder d (fresh start inputs) schedule false run
  pub small : cost run.left ≤ 67108864
  pub figures : Measures run m
