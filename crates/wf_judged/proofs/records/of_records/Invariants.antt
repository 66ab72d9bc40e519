use Rattle.std.proofs.Common.{◌≡◌, ◌++◌, drop, map}
use Rattle.wf_judged.specs.Failures.{in_records}
use Rattle.wf_judged.specs.Why.{why}
use Rattle.wf_judged.proofs.records.of_records.Given as goal

-- what is told so far, and of the records that are left
abbrev pub invariant-loop-place : goal.invariant-loop-place
invariant-loop-place l =
    map why l.all ++ in_records l.expected l.place (map (λ r. r.now) (drop l.place l.lines))
    ≡ map why l.fn.all ++ in_records l.expected 0 (map (λ r. r.now) l.lines)
