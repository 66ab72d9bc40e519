use Rattle.std.proofs.Common.{◌≡◌, drop}
use Rattle.std.specs.List.{list_any}
use Rattle.wf_order.specs.OrderSeen.{places_seen}
use Rattle.wf_order.specs.Table.{are_apart, stand_at}
use Rattle.wf_order.proofs.order.apart_from_any.Given as goal

abbrev pub invariant-loop-d : goal.invariant-loop-d
invariant-loop-d l =
    list_any (λ d. are_apart l.stand (stand_at (places_seen l.places) d)) (drop l.d-index l.ys)
    ≡ list_any (λ d. are_apart l.stand (stand_at (places_seen l.places) d)) l.ys
