use Rattle.std.proofs.Common.{◌∙◌, string_bytes, arith}
use Rattle.wf_tap.specs.Junit.{suite_lines}
use Rattle.wf_tap.proofs.LineLemmas.{item_written}
use Rattle.wf_tap.proofs.junit.write_suites.Goals as goal

pub loop-one-preserved : goal.loop-one-preserved
loop-one-preserved c =
    item_written suite_lines c.args.results.now c.loop-one.one-index c.one-item.result (string_bytes c.loop-one.out)
    (string_bytes c.write_suite.new.out) (omega arith) c.one-item.is c.in_ok-write_suite.ensures
    ∙ c.loop-one.invariant
