use Rattle.std.proofs.Common.{◌≡◌, drop, map}
use Rattle.std.specs.List.{list_any}
use Rattle.wf_val.specs.Seen.{tree, member}
use Rattle.wf_kinds.specs.Containers.{case_of, is_same}
use Rattle.wf_kinds.proofs.containers.is_any_same.Given as goal

abbrev pub invariant-loop-case : goal.invariant-loop-case
invariant-loop-case l =
    list_any (is_same (tree l.value)) (map case_of (map member (drop l.case-index l.cases)))
    ≡ list_any (is_same (tree l.value)) (map case_of (map member l.cases))
