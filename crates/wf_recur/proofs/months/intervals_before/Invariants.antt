use Rattle.std.proofs.Common.{◌-◌, ◌≡◌, ◌*◌, ◌<◌, ◌≤◌, ℕ, true, false}
use Rattle.wf_recur.specs.Due.{months_later}
use Rattle.wf_recur.specs.Next.{is_before}
use Rattle.wf_recur.proofs.months.intervals_before.Given as goal

-- below `low` all lead to a moment before, and `high` doesn't
abbrev pub invariant-loop-low : goal.invariant-loop-low
invariant-loop-low l =
    (l.low ≤ l.high) × (l.high ≤ 120000)
    × ((k : ℕ) → k < l.low → is_before l.at (months_later (k * l.interval) l.start) ≡ true)
    × (is_before l.at (months_later (l.high * l.interval) l.start) ≡ false)

abbrev pub decreases-loop-low : goal.decreases-loop-low
decreases-loop-low l = l.high - l.low
