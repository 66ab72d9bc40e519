use Rattle.std.proofs.Common.{◌≡◌, None, drop, map}
use Rattle.wf_asks.specs.Known.{opens_in}
use Rattle.wf_def.specs.ActionSeen.{action_tree}
use Rattle.wf_layers.specs.Address.{Address}
use Rattle.wf_opening.specs.DecisionSeen.{decision_tree, verdict_tree}
use Rattle.wf_order.specs.OrderSeen.{order_tree}
use Rattle.wf_record.specs.Seen.{record_tree}
use Rattle.wf_redo.specs.Sets.{again_any}
use Rattle.wf_regained.specs.Reopened.{with_all_reopened}
use Rattle.wf_regained.proofs.reopened.reopened.Given as goal

-- what is opened and what is left are all
abbrev pub invariant-loop-action : goal.invariant-loop-action
invariant-loop-action l =
    (x : Address)
    → with_all_reopened (record_tree l.log).rows (again_any (order_tree l.order) l.from) (opens_in decision_tree verdict_tree l.opens.0)
    (map (λ a. action_tree a.now) (drop l.action-index l.actions)) x
    ≡ with_all_reopened (record_tree l.log).rows (again_any (order_tree l.order) l.from) (λ y. None)
    (map (λ a. action_tree a.now) l.actions) x
