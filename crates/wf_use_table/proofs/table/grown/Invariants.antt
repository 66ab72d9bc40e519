use Rattle.std.proofs.Common.{◌≡◌, ℕ, ◌+◌, ◌-◌, length}
use Rattle.wf_use_table.specs.Seen.{kept_at}
use Rattle.wf_use_table.proofs.table.grown.Given as goal

-- nothing was put in
abbrev pub invariant-loop-all : goal.invariant-loop-all
invariant-loop-all g l = (n : ℕ) → kept_at l.all.items n ≡ kept_at l.fn.table.items n

abbrev pub decreases-loop-all : goal.decreases-loop-all
decreases-loop-all g l = l.number + 1 - length l.all.items
