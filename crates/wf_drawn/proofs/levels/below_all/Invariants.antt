use Rattle.std.proofs.Common.{◌≡◌, drop, max}
use Rattle.wf_drawn.specs.Levels.{below_all}
use Rattle.wf_drawn.proofs.levels.below_all.Given as goal

-- below those so far, and those that are left
abbrev pub invariant-loop-entry : goal.invariant-loop-entry
invariant-loop-entry l = max l.level (below_all l.levels (drop l.entry-index l.entry-items)) ≡ below_all l.levels l.after
