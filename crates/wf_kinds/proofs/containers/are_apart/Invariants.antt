use Rattle.std.proofs.Common.{◌≡◌, drop, map}
use Rattle.wf_val.specs.Seen.{member}
use Rattle.wf_kinds.specs.Containers.{are_apart, case_of}
use Rattle.wf_kinds.proofs.containers.are_apart.Given as goal

abbrev pub invariant-loop-place : goal.invariant-loop-place
invariant-loop-place l = are_apart (map case_of (map member (drop l.place l.cases))) ≡ are_apart (map case_of (map member l.cases))
