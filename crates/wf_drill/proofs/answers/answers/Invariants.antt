use Rattle.std.proofs.Common.{◌≡◌}
use Rattle.wf_drill.specs.Calls.{answers}
use Rattle.wf_drill.proofs.answers.answers.Given as goal

abbrev pub invariant-loop-k : goal.invariant-loop-k
invariant-loop-k l = l.values ≡ answers l.k
