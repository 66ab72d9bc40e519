-- The figures of a drill under each of its schedules.
use Rattle.std.specs.Prelude.{ℕ, List}
use Rattle.wf_answers.specs.Inputs.{InputsTree}
use Rattle.wf_def.specs.DefTree.{DefTree}
use Rattle.wf_told.specs.Measured.{IsMeasured}
use Rattle.wf_top.specs.declared.drilling.Measures.{Measures}

pub record AreMeasured (d : DefTree) (inputs : InputsTree) (plain second third : List ℕ) (m : Measures) : Type 0 where
  pub plain_is : IsMeasured d inputs plain m.plain
  pub second_is : IsMeasured d inputs second m.second
  pub third_is : IsMeasured d inputs third m.third
