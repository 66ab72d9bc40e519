-- How the one run went that inputs start, by what the calls are given.
use Rattle.std.specs.Prelude.{ℕ, List}
use Rattle.wf_answers.specs.InputsSeen.{inputs_tree}
use Rattle.wf_answers.specs.declared.inputs.Inputs.{Inputs}
use Rattle.wf_reading.specs.ReadSeen.{def_tree}
use Rattle.wf_run.specs.Checked.{Checked}
use Rattle.wf_told.specs.Measured.{IsMeasured, StartsAlone}
use Rattle.wf_told.specs.declared.measure.Measure.{Measure}

abbrev pub OneStarts : Checked → Inputs → Type 0
OneStarts checked inputs = StartsAlone (def_tree checked.def) (inputs_tree inputs)

abbrev pub IsTheMeasure : Checked → Inputs → List ℕ → Measure → Type 0
IsTheMeasure checked inputs schedule m = IsMeasured (def_tree checked.def) (inputs_tree inputs) schedule m
