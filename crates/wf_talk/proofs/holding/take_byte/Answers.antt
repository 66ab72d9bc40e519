use Rattle.wf_talk.specs.Seen.{hearing}
use Rattle.wf_talk.proofs.HoldLemmas.{byte_stops_it, stops_unread, stops_without}
use Rattle.wf_talk.proofs.holding.take_byte.Goals as goal

pub returns-in-Ok-Some-clause-stops : goal.returns-in-Ok-Some-clause-stops
returns-in-Ok-Some-clause-stops g c =
    byte_stops_it (g.S.Stand.stands (g.S.Stand.origin c.args.talk.now.stand)) (hearing g.S.Stand.inputs g.S.Stand.wanted c.args.talk.now)
    c.args.rest.now.items c.in-Ok-Some.byte (g.I.Source.left c.args.input.now) (g.I.Source.left c.next_byte.new.input)
    (g.O.Sink.taken c.args.out.now) (g.O.Sink.taken c.hear_byte.new.out)
    c.hear_byte.result (rw c.in-Ok-Some.field-0-is at c.in-Ok-Some.ensures.gives) c.hear_byte.ensures.stops

pub returns-in-Ok-None-clause-stops : goal.returns-in-Ok-None-clause-stops
returns-in-Ok-None-clause-stops g c =
    stops_without (g.S.Stand.stands (g.S.Stand.origin c.args.talk.now.stand)) (hearing g.S.Stand.inputs g.S.Stand.wanted c.args.talk.now)
    c.args.rest.now.items c.deref.result.now (g.I.Source.left c.args.input.now) (g.I.Source.left c.next_byte.new.input)
    (g.O.Sink.taken c.args.out.now) (g.O.Sink.taken c.end_input.new.out)
    c.end_input.result c.deref.ensures.value (rw c.in-Ok-None.field-0-is at c.in-Ok-None.ensures.gives) c.end_input.ensures.stops

pub returns-in-Err-clause-stops : goal.returns-in-Err-clause-stops
returns-in-Err-clause-stops g c =
    stops_unread (g.S.Stand.stands (g.S.Stand.origin c.args.talk.now.stand)) (hearing g.S.Stand.inputs g.S.Stand.wanted c.args.talk.now)
    c.args.rest.now.items (g.I.Source.left c.args.input.now) (g.I.Source.left c.next_byte.new.input) (g.O.Sink.taken c.args.out.now)
    (g.O.Sink.taken c.close.new.out) c.close.result c.in-Err.ensures.err
    c.close.ensures.writes
