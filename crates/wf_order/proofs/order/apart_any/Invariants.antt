use Rattle.std.proofs.Common.{◌≡◌, drop}
use Rattle.wf_order.specs.OrderSeen.{places_seen}
use Rattle.wf_order.specs.Table.{apart_any}
use Rattle.wf_order.proofs.order.apart_any.Given as goal

abbrev pub invariant-loop-c : goal.invariant-loop-c
invariant-loop-c l = apart_any (places_seen l.places) (drop l.c-index l.xs) l.ys ≡ apart_any (places_seen l.places) l.xs l.ys
