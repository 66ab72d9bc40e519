use Rattle.std.proofs.Common.{◌≡◌, map, length, replicate}
use Rattle.wf_def.specs.ActionSeen.{action_tree}
use Rattle.wf_drawn.specs.Levels.{rounds}
use Rattle.wf_drawn.proofs.levels.levels_of.Given as goal

-- the rounds so far
abbrev pub invariant-loop-round : goal.invariant-loop-round
invariant-loop-round l =
    l.levels.items ≡ rounds l.round (replicate (length l.actions.items) 0) (map (λ a. action_tree a.now) l.actions.items)
