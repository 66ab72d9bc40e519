use Rattle.std.proofs.Common.{◌≡◌}
use Rattle.wf_drill.specs.Drill.{numbers}
use Rattle.wf_drill.proofs.schedules.numbers.Given as goal

abbrev pub invariant-loop-turn : goal.invariant-loop-turn
invariant-loop-turn l = l.schedule ≡ numbers l.first l.step l.turn
