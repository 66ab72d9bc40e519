use Rattle.std.proofs.Common.{◌≡◌, ◌+◌, ◌≤◌, length}
use Rattle.wf_fn_time.specs.Moments.{last_tick}
use Rattle.wf_recur.specs.Due.{start_or}
use Rattle.wf_recur.proofs.NextLemmas.{AreBefore}
use Rattle.wf_recur.proofs.moments.fires.Given as goal

-- the moments so far are all that are due before `at`
abbrev pub invariant-loop : goal.invariant-loop
invariant-loop l =
    AreBefore l.recurrence l.fn.from l.at l.moments.items × (length l.moments.items ≡ l.counter) × (l.fn.from ≤ l.at)
    × (l.at ≤ last_tick + 1) × (l.start ≡ start_or l.recurrence l.fn.from)
