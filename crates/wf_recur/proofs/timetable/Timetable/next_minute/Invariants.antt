use Rattle.std.proofs.Common.{◌-◌, ◌<◌, ◌≤◌, ℕ}
use Rattle.wf_recur.specs.Timetable.{IsDueMinute}
use Rattle.wf_recur.proofs.timetable.Timetable.next_minute.Given as goal

-- none is due from the first on that is passed
abbrev pub invariant-loop-minute : goal.invariant-loop-minute
invariant-loop-minute l = (l.from ≤ l.minute) × ((k : ℕ) → l.from ≤ k → k < l.minute → IsDueMinute l.self k → ⊥)

abbrev pub decreases-loop-minute : goal.decreases-loop-minute
decreases-loop-minute l = 5258964960 - l.minute
