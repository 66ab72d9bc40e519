use Rattle.std.proofs.Common.{[], take}
use Rattle.wf_tests.specs.Runs.{AreRun}
use Rattle.wf_tests.proofs.running.run_tests.Given as goal

-- the tests so far were run
abbrev pub invariant-loop-test : goal.invariant-loop-test
invariant-loop-test g l =
    AreRun g.P.Program.says l.sources l.suite.definition [] (take l.test-index l.test-items) l.ends.items l.outcomes
