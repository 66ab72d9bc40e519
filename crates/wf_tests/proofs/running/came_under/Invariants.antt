use Rattle.std.proofs.Common.{◌≡◌, length}
use Rattle.wf_tests.specs.Command.{handed, seed_of}
use Rattle.wf_tests.specs.Runs.{CameUnder}
use Rattle.wf_tests.proofs.running.came_under.Given as goal

-- they ended so under the schedules so far
abbrev pub invariant-loop-place : goal.invariant-loop-place
invariant-loop-place g l = record {
  came : CameUnder g.P.Program.says l.words (handed l.given.definition.now l.given.history.now l.given.inputs.now) (seed_of l.kind) 0
      l.others.items;
  all : length l.others.items ≡ l.place;
}
