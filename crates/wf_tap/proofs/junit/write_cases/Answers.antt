use Rattle.std.proofs.Common.{◌∙◌, string_bytes, arith}
use Rattle.wf_tap.specs.Junit.{case_lines}
use Rattle.wf_tap.proofs.LineLemmas.{item_written}
use Rattle.wf_tap.proofs.junit.write_cases.Goals as goal

pub loop-outcome-preserved : goal.loop-outcome-preserved
loop-outcome-preserved c =
    item_written (case_lines c.args.file.now) c.args.outcomes.now c.loop-outcome.outcome-index c.outcome-item.result
    (string_bytes c.loop-outcome.out) (string_bytes c.write_case.new.out) (omega arith) c.outcome-item.is c.in_ok-write_case.ensures
    ∙ c.loop-outcome.invariant
