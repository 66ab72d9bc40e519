use Rattle.std.proofs.Common.{◌≡◌, drop, map}
use Rattle.wf_asks.specs.Instances.{address_of, rows_in}
use Rattle.wf_closing.specs.StepsSeen.{row_content}
use Rattle.wf_order.specs.OrderSeen.{order_tree}
use Rattle.wf_doing.specs.Halting.{any_halts}
use Rattle.wf_doing.proofs.halting.halts.Given as goal

abbrev pub invariant-loop-place : goal.invariant-loop-place
invariant-loop-place l =
    any_halts (order_tree l.order) l.number (rows_in row_content l.rows.0) (map address_of (drop l.place-index l.terminates))
    ≡ any_halts (order_tree l.order) l.number (rows_in row_content l.rows.0) (map address_of l.terminates)
