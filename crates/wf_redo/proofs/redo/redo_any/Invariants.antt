use Rattle.std.proofs.Common.{◌≡◌, drop}
use Rattle.wf_order.specs.OrderSeen.{order_tree}
use Rattle.wf_redo.specs.Sets.{redo_any}
use Rattle.wf_redo.proofs.redo.redo_any.Given as goal

abbrev pub invariant-loop-x : goal.invariant-loop-x
invariant-loop-x l = redo_any (order_tree l.order) (drop l.x-index l.from) l.y ≡ redo_any (order_tree l.order) l.from l.y
