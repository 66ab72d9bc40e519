use Rattle.std.proofs.Common.{◌≡◌, drop}
use Rattle.wf_asks.specs.Instances.{rows_in}
use Rattle.wf_closing.specs.Inside.{any_succeeded}
use Rattle.wf_closing.specs.StepsSeen.{row_content}
use Rattle.wf_closing.proofs.inside.Inside.is_terminated.Given as goal

abbrev pub invariant-loop-number : goal.invariant-loop-number
invariant-loop-number l = record {
  at : l.place.at ≡ l.at;
  left :
      any_succeeded (drop l.number-index l.self.terminates.items) l.at (rows_in row_content l.rows.0)
      ≡ any_succeeded l.self.terminates.items l.at (rows_in row_content l.rows.0);
}
