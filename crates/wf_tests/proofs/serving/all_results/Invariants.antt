use Rattle.std.proofs.Common.{take}
use Rattle.wf_tests.specs.Served.{AreTested}
use Rattle.wf_tests.proofs.serving.all_results.Given as goal

-- the tests of the files so far were run
abbrev pub invariant-loop-one : goal.invariant-loop-one
invariant-loop-one g l = AreTested g.P.Program.says (take l.one-index l.loaded) l.results.items
