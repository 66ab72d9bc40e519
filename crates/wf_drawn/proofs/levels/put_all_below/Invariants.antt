use Rattle.std.proofs.Common.{◌≡◌, drop, map}
use Rattle.wf_def.specs.ActionSeen.{action_tree}
use Rattle.wf_drawn.specs.Levels.{put_all_below}
use Rattle.wf_drawn.proofs.levels.put_all_below.Given as goal

-- the levels so far, and the actions that are left
abbrev pub invariant-loop-action : goal.invariant-loop-action
invariant-loop-action l =
    put_all_below l.levels (map (λ a. action_tree a.now) (drop l.action-index l.actions))
    ≡ put_all_below l.fn.levels (map (λ a. action_tree a.now) l.actions)
