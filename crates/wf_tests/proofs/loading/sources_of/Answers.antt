use Rattle.std.proofs.Common.{rules, List, subst, arith}
use Rattle.wf_suite.specs.declared.suite.Test.{Test}
use Rattle.wf_tests.specs.Whole.{AreReady}
use Rattle.wf_tests.proofs.WholeLemmas.{ready_all, ready_more}
use Rattle.wf_tests.proofs.loading.sources_of.Goals as goal

-- what was there is there still, and what one test more is handed
pub loop-test-preserved : goal.loop-test-preserved
loop-test-preserved g c = record {
  read = search rules;
  definition = c.in_ok-sources-2.ensures.keeps _ c.loop-test.invariant.definition;
  ready =
      ready_more c.loop-test.sources c.in_ok-sources-2.sources c.in_ok-sources-2.ensures.keeps c.as_slice-test-items.result.now
      c.loop-test.test-index c.test-item.result c.loop-test-test.true c.test-item.is c.loop-test.invariant.ready
      c.in_ok-sources-2.ensures.ready;
  unfailed = search rules;
  same = search rules;
}

pub returns-clause-whole : goal.returns-clause-whole
returns-clause-whole g c = (
  c.loop-test.invariant.definition,
  subst (λ (ts : List Test). AreReady c.loop-test.sources ts) c.as_slice-test-items.ensures
      (ready_all c.loop-test.sources c.as_slice-test-items.result.now c.loop-test.test-index (omega (arith, c.loop-test-test.false))
      c.loop-test.invariant.ready),
)
