use Rattle.std.proofs.Common.{◌≡◌, drop, false, map, replicate}
use Rattle.wf_asks.specs.Instances.{rows_in}
use Rattle.wf_closing.specs.Judged.{fails_from}
use Rattle.wf_closing.specs.StepsSeen.{row_content, step_tree}
use Rattle.wf_closing.proofs.judged.fails_of.Given as goal

abbrev pub invariant-loop-step : goal.invariant-loop-step
invariant-loop-step l = record {
  at : l.place.at ≡ l.at;
  fails :
      fails_from l.at (rows_in row_content l.rows.0) (map step_tree (drop l.step-index l.steps)) l.fails.items
      ≡ fails_from l.at (rows_in row_content l.rows.0) (map step_tree l.steps) (replicate l.size false);
}
