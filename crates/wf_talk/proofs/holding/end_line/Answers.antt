use Rattle.wf_talk.specs.Seen.{hearing}
use Rattle.wf_talk.proofs.HoldLemmas.{line_spent, line_stops_it}
use Rattle.wf_talk.proofs.holding.end_line.Goals as goal

pub returns-in-Ok-clause-stops : goal.returns-in-Ok-clause-stops
returns-in-Ok-clause-stops g c =
    line_stops_it (g.S.Stand.stands (g.S.Stand.origin c.args.talk.now.stand)) (hearing g.S.Stand.inputs g.S.Stand.wanted c.args.talk.now)
    c.args.line.now (hearing g.S.Stand.inputs g.S.Stand.wanted c.hear.new.self) c.in-Ok.said.over c.in-Ok.said.text.items
    (g.O.Sink.taken c.args.out.now) (g.O.Sink.taken c.say.new.out) c.say.result c.in-Ok.ensures.said c.say.ensures.stops

pub returns-in-Err-clause-stops : goal.returns-in-Err-clause-stops
returns-in-Err-clause-stops g c =
    line_spent (g.S.Stand.stands (g.S.Stand.origin c.args.talk.now.stand)) (hearing g.S.Stand.inputs g.S.Stand.wanted c.args.talk.now)
    c.args.line.now (g.O.Sink.taken c.args.out.now) (g.O.Sink.taken c.close.new.out) c.close.result c.close.ensures.writes
