use Rattle.std.proofs.Common.{◌≡◌, drop}
use Rattle.wf_tests.specs.Served.{passed}
use Rattle.wf_tests.proofs.serving.passed.Given as goal

-- those that are left decide
abbrev pub invariant-loop-one : goal.invariant-loop-one
invariant-loop-one l = passed (drop l.one-index l.results) ≡ passed l.results
