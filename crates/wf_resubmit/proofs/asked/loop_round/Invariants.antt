use Rattle.std.proofs.Common.{◌≡◌, drop, map}
use Rattle.std.specs.List.{find}
use Rattle.wf_def.specs.ActionSeen.{action_tree}
use Rattle.wf_loops.specs.OrderSeen.{order_tree}
use Rattle.wf_resubmit.specs.Refused.{is_round}
use Rattle.wf_resubmit.proofs.asked.loop_round.Given as goal

abbrev pub invariant-loop-action : goal.invariant-loop-action
invariant-loop-action l =
    find (is_round (order_tree l.order) l.number) (map (λ a. action_tree a.now) (drop l.action-index l.actions))
    ≡ find (is_round (order_tree l.order) l.number) (map (λ a. action_tree a.now) l.actions)
