use Rattle.std.proofs.Common.{◌≡◌, ◌++◌, ◌-◌}
use Rattle.wf_layers.specs.Resubmission.{kept}
use Rattle.wf_order.specs.OrderSeen.{order_tree}
use Rattle.wf_paths.specs.Table.{from as at_places}
use Rattle.wf_redo.specs.Sets.{again_any, redo_any}
use Rattle.wf_regained.proofs.kept.kept_numbers.Given as goal

abbrev pub invariant-loop-y : goal.invariant-loop-y
invariant-loop-y l =
    l.all.items
    ++ at_places l.y (l.count - l.y) (kept (redo_any (order_tree l.order) l.from) (again_any (order_tree l.order) l.from))
    ≡ at_places 0 l.count (kept (redo_any (order_tree l.order) l.from) (again_any (order_tree l.order) l.from))
