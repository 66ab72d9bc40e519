use Rattle.std.proofs.Common.{◌≡◌, None, drop, length, map, replicate}
use Rattle.wf_def.specs.ActionSeen.{action_tree}
use Rattle.wf_plan.specs.Walk.{all_held}
use Rattle.wf_plan.proofs.plan.holders_of.Given as goal

abbrev pub invariant-loop-action : goal.invariant-loop-action
invariant-loop-action l =
    all_held l.table.items (map (λ a. action_tree a.now) (drop l.action-index l.actions))
    ≡ all_held (replicate (length l.actions) None) (map (λ a. action_tree a.now) l.actions)
