use Rattle.std.proofs.Common.{◌≡◌, ◌<◌, ◌++◌}
use Rattle.wf_tests.specs.Schedules.{further_schedule, lines_behind}
use Rattle.wf_tests.proofs.schedules.further_schedule.Given as goal

-- the lines so far, and those that are left
abbrev pub invariant-loop-left : goal.invariant-loop-left
invariant-loop-left l = record {
  all : l.bytes.items ++ lines_behind l.left l.state ≡ further_schedule l.seed l.place;
  within : l.state < 2147483648;
}

abbrev pub decreases-loop-left : goal.decreases-loop-left
decreases-loop-left l = l.left
