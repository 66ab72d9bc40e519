use Rattle.std.proofs.Common.{◌≡◌, [], drop, length, map, replicate}
use Rattle.wf_def.specs.ActionSeen.{action_tree}
use Rattle.wf_plan.specs.PlanSeen.{lists_of}
use Rattle.wf_plan.specs.Walk.{all_added}
use Rattle.wf_plan.proofs.plan.followers_of.Given as goal

abbrev pub invariant-loop-action : goal.invariant-loop-action
invariant-loop-action l =
    all_added (lists_of l.table.items) (map (λ a. action_tree a.now) (drop l.action-index l.actions))
    ≡ all_added (replicate (length l.actions) []) (map (λ a. action_tree a.now) l.actions)
