use Rattle.std.proofs.Common.{◌≡◌, ◌++◌, drop, map}
use Rattle.wf_judged.specs.Failures.{of_further}
use Rattle.wf_judged.specs.Why.{why}
use Rattle.wf_judged.proofs.judging.of_further.Given as goal

-- what is told so far, and of the ends that are left
abbrev pub invariant-loop-place : goal.invariant-loop-place
invariant-loop-place l =
    map why l.all ++ of_further l.most l.first l.place (drop l.place l.others)
    ≡ map why l.fn.all ++ of_further l.most l.first 0 l.others
