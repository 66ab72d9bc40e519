use Rattle.std.proofs.Common.{◌≡◌, drop}
use Rattle.wf_tests.specs.Served.{all_pass}
use Rattle.wf_tests.proofs.serving.all_pass.Given as goal

-- those that are left decide
abbrev pub invariant-loop-outcome : goal.invariant-loop-outcome
invariant-loop-outcome l = all_pass (drop l.outcome-index l.outcomes) ≡ all_pass l.outcomes
