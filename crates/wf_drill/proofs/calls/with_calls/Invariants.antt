use Rattle.std.proofs.Common.{◌≡◌, ◌∷◌, codes}
use Rattle.wf_drill.specs.Calls.{each_call}
use Rattle.wf_val.specs.Seen.{tree}
use Rattle.wf_drill.proofs.calls.with_calls.Given as goal

abbrev pub invariant-loop-k : goal.invariant-loop-k
invariant-loop-k l = l.members ≡ (codes "F", tree l.fn.of_loop) ∷ each_call (tree l.of_call) l.k
