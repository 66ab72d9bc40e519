use Rattle.std.proofs.Common.{ap, ◌∙◌}
use Rattle.wf_order.specs.OrderSeen.{places_seen}
use Rattle.wf_order.proofs.FillLemmas.{seen_free}
use Rattle.wf_order.proofs.place.free_places.Goals as goal

pub loop-preserved : goal.loop-preserved
loop-preserved c = ap places_seen c.in_ok-push.ensures.items ∙ seen_free c.loop.places.items c.loop.counter c.loop.invariant
