use Rattle.std.proofs.Common.{◌≡◌, None, replicate}
use Rattle.wf_order.specs.OrderSeen.{places_seen}
use Rattle.wf_order.proofs.place.free_places.Given as goal

abbrev pub invariant-loop : goal.invariant-loop
invariant-loop l = places_seen l.places.items ≡ replicate l.counter None
