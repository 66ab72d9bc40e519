use Rattle.wf_talk.specs.Seen.{hearing}
use Rattle.wf_talk.proofs.HoldLemmas.{byte_spent, feed_stops_it}
use Rattle.wf_talk.proofs.holding.hear_byte.Goals as goal

pub returns-then-byte-eq10-clause-stops : goal.returns-then-byte-eq10-clause-stops
returns-then-byte-eq10-clause-stops g c =
    feed_stops_it (g.S.Stand.stands (g.S.Stand.origin c.args.talk.now.stand)) (hearing g.S.Stand.inputs g.S.Stand.wanted c.args.talk.now)
    c.args.rest.now.items c.deref.result.now c.args.byte (g.O.Sink.taken c.args.out.now) (g.O.Sink.taken c.end_line-stopped.new.out)
    c.end_line-stopped.result c.deref.ensures.value c.if-byte-eq10.true c.end_line-stopped.ensures.stops

pub returns-in-Err-clause-stops : goal.returns-in-Err-clause-stops
returns-in-Err-clause-stops g c =
    byte_spent (g.S.Stand.stands (g.S.Stand.origin c.args.talk.now.stand)) (hearing g.S.Stand.inputs g.S.Stand.wanted c.args.talk.now)
    c.args.rest.now.items c.args.byte (g.O.Sink.taken c.args.out.now) (g.O.Sink.taken c.close.new.out) c.close.result c.close.ensures.writes
