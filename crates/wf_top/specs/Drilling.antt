-- What may be said of a drill: how its run went under three schedules.
use Rattle.std.specs.Prelude.{◌≡◌, ◌⊎◌, ℕ, List, [], ◌++◌, codes, decimal}
use Rattle.wf_answers.specs.Inputs.{InputsTree}
use Rattle.wf_def.specs.DefTree.{DefTree}
use Rattle.wf_drill.specs.Drill.{forward, leaping}
use Rattle.wf_record.specs.Record.{run_status_name}
use Rattle.wf_told.specs.Measured.{IsMeasured}
use Rattle.wf_told.specs.declared.measure.Measure.{Measure}
use Rattle.wf_top.specs.Told.{SaysNoRuns}
use Rattle.wf_top.specs.declared.said.Verdict.{Verdict}
use Rattle.wf_top.specs.declared.said.Verdict.TheVariants.{Done}

-- the figures of a drill of a size that are the same under every schedule
unfoldable pub figures_words : ℕ → Measure → List ℕ
figures_words n m = codes "drill " ++ decimal n ++ codes " rows " ++ decimal m.rows ++ codes " steps " ++ decimal m.steps

-- and the peaks, which aren't
unfoldable pub peaks_words : ℕ → ℕ → ℕ → List ℕ
peaks_words first second third = codes " peak " ++ decimal first ++ codes " " ++ decimal second ++ codes " " ++ decimal third

-- The line of a drill of a size: the figures under the empty schedule, and the peak under each of the three.
unfoldable pub drill_line : ℕ → Measure → ℕ → ℕ → List ℕ
drill_line n m second third =
    figures_words n m ++ peaks_words m.peak second third ++ codes " status " ++ run_status_name m.status ++ codes "\n"

module _ (n : ℕ) (d : DefTree) (inputs : InputsTree) where
  -- THE LINE of the drill of this size, whose definition and inputs were read as these.
  pub record TellsDrill (text : List ℕ) : Type 0 where
    pub plain : Measure
    pub second : Measure
    pub third : Measure
    pub plain_is : IsMeasured d inputs [] plain
    pub second_is : IsMeasured d inputs (forward n) second
    pub third_is : IsMeasured d inputs (leaping n) third
    pub text_is : text ≡ drill_line n plain second.peak third.peak

  abbrev pub SaysDrill : Verdict → List ℕ → Type 0
  SaysDrill verdict text = (verdict ≡ Done) × TellsDrill text

  -- what is said of it: its line, or why its run isn't made
  abbrev pub MayTellDrill : Verdict → List ℕ → Type 0
  MayTellDrill verdict text = SaysDrill verdict text ⊎ SaysNoRuns d inputs verdict text
