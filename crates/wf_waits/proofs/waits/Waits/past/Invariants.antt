use Rattle.std.proofs.Common.{◌≤◌, ◌-◌, length}
use Rattle.wf_waits.specs.Places.{AreTheirsFrom}
use Rattle.wf_waits.proofs.waits.Waits.past.Given as goal

-- below `low` all are theirs
abbrev pub invariant-loop-low : goal.invariant-loop-low
invariant-loop-low l = record {
  from : l.from ≤ l.low;
  beside : l.high ≤ length l.self-inside.by_place.0;
  among : l.high ≤ length l.ready.0;
  passed : AreTheirsFrom l.ready.0 l.self-inside.by_key l.from l.low;
}

abbrev pub decreases-loop-low : goal.decreases-loop-low
decreases-loop-low l = l.high - l.low
