use Rattle.std.proofs.Common.{◌≡◌, drop}
use Rattle.std.specs.List.{list_any}
use Rattle.wf_order.specs.OrderSeen.{order_tree}
use Rattle.wf_order.specs.Table.{contains}
use Rattle.wf_redo.proofs.redo.contains_any.Given as goal

abbrev pub invariant-loop-x : goal.invariant-loop-x
invariant-loop-x l =
    list_any (λ x. contains (order_tree l.order) l.y x) (drop l.x-index l.from)
    ≡ list_any (λ x. contains (order_tree l.order) l.y x) l.from
