use Rattle.std.proofs.Common.{◌≡◌, ◌++◌, drop, map}
use Rattle.wf_order.specs.OrderSeen.{places_seen}
use Rattle.wf_order.specs.Table.{after_at}
use Rattle.wf_order.proofs.order.nodes.Given as goal

abbrev pub invariant-loop-place : goal.invariant-loop-place
invariant-loop-place l =
    map (λ node. node.items) l.nodes.items ++ map after_at (places_seen (drop l.place-index l.places)) ≡ map after_at (places_seen l.places)
