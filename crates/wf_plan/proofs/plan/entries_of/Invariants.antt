use Rattle.std.proofs.Common.{◌≡◌, None, drop, length, map, replicate}
use Rattle.wf_def.specs.ActionSeen.{action_tree}
use Rattle.wf_plan.specs.PlanSeen.{entries_seen}
use Rattle.wf_plan.specs.Walk.{all_entered}
use Rattle.wf_plan.proofs.plan.entries_of.Given as goal

abbrev pub invariant-loop-action : goal.invariant-loop-action
invariant-loop-action l =
    all_entered (entries_seen l.table.items) (map (λ a. action_tree a.now) (drop l.action-index l.actions))
    ≡ all_entered (replicate (length l.actions) None) (map (λ a. action_tree a.now) l.actions)
