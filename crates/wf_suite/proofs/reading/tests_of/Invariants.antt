use Rattle.std.proofs.Common.{◌≡◌, [], drop, map}
use Rattle.wf_val.specs.Seen.{tree}
use Rattle.wf_suite.specs.Known.{tests_known}
use Rattle.wf_suite.specs.Suite.{tests_after}
use Rattle.wf_suite.proofs.reading.tests_of.Given as goal

-- what comes of the tests so far and of the values that are left
abbrev pub invariant-loop-value : goal.invariant-loop-value
invariant-loop-value l = tests_after (tests_known l.done) (map tree (drop l.value-index l.values)) ≡ tests_after [] (map tree l.values)
