use Rattle.std.proofs.Common.{◌≡◌, ◌++◌, map}
use Rattle.wf_match.specs.Told.{told}
use Rattle.wf_judged.specs.Why.{Differs, why}
use Rattle.wf_judged.proofs.records.all_differ.Given as goal

-- those so far, and those that are left
abbrev pub invariant-loop-difference : goal.invariant-loop-difference
invariant-loop-difference l =
    map why l.found.items ++ map Differs (map told l.difference-iterator.rest.items) ≡ map Differs (map told l.fn.differences.items)
