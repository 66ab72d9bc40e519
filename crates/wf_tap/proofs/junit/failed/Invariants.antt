use Rattle.std.proofs.Common.{◌≡◌, ◌+◌, ◌≤◌, drop}
use Rattle.wf_tap.specs.Junit.{failed}
use Rattle.wf_tap.proofs.junit.failed.Given as goal

-- those so far and those that are left, and no more than were looked at
abbrev pub invariant-loop-outcome : goal.invariant-loop-outcome
invariant-loop-outcome l = (l.count + failed (drop l.outcome-index l.outcomes) ≡ failed l.outcomes) × (l.count ≤ l.outcome-index)
