use Rattle.std.proofs.Common.{◌≡◌, drop, map, max}
use Rattle.wf_def.specs.ActionSeen.{action_tree, actions_seen}
use Rattle.wf_drawn.specs.Levels.{depth}
use Rattle.wf_drawn.proofs.levels.depth.Given as goal

-- the depth of those so far, and of those that are left
abbrev pub invariant-loop-action : goal.invariant-loop-action
invariant-loop-action l = max l.depth (depth l.levels (map action_tree (drop l.action-index l.action-items))) ≡ depth l.levels (actions_seen l.actions)
