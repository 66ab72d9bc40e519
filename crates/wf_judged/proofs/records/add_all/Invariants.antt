use Rattle.std.proofs.Common.{◌≡◌, ◌++◌, map}
use Rattle.wf_judged.specs.Why.{why}
use Rattle.wf_judged.proofs.records.add_all.Given as goal

-- those so far, and those that are left
abbrev pub invariant-loop-failure : goal.invariant-loop-failure
invariant-loop-failure l = map why l.all ++ map why l.failure-iterator.rest.items ≡ map why l.fn.all ++ map why l.fn.found.items
