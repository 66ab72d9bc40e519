use Rattle.std.proofs.Common.{◌≡◌, ℕ, drop, false, map, replicate}
use Rattle.wf_asks.specs.Instances.{rows_in}
use Rattle.wf_closing.specs.Judged.{fails_from}
use Rattle.wf_closing.specs.StepsSeen.{row_content, step_tree}
use Rattle.wf_closing.proofs.judged.all_pass.Given as goal

-- nothing was marked by the steps so far
abbrev pub invariant-loop-step : goal.invariant-loop-step
invariant-loop-step l = record {
  at : l.place.at ≡ l.at;
  fails : (size : ℕ)
      → fails_from l.at (rows_in row_content l.rows.0) (map step_tree (drop l.step-index l.steps)) (replicate size false)
      ≡ fails_from l.at (rows_in row_content l.rows.0) (map step_tree l.steps) (replicate size false);
}
