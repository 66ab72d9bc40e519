use Rattle.wf_talk.specs.Seen.{hearing}
use Rattle.wf_talk.proofs.TalkLemmas.{holds_on, over_at_once, spent_first}
use Rattle.wf_talk.proofs.holding.hold.Goals as goal

pub returns-in-Some-clause-talks : goal.returns-in-Some-clause-talks
returns-in-Some-clause-talks g c =
    over_at_once (g.S.Stand.stands (g.S.Stand.origin c.args.stand)) (g.S.Stand.inputs c.args.stand) (g.I.Source.left c.args.input.now)
    (g.O.Sink.taken c.args.out.now)
    (g.O.Sink.taken c.say.new.out) c.in-Ok.said.over (hearing g.S.Stand.inputs g.S.Stand.wanted c.open.new.self) c.in-Ok.said.text.items
    c.in-Some.status
    c.in-Ok.ensures.said c.in-Some.ensures.stops

pub returns-in-Ok-clause-talks : goal.returns-in-Ok-clause-talks
returns-in-Ok-clause-talks g c =
    let goes = c.say.ensures.goes c.in-None.is in
    holds_on g.S.Stand.stands (g.S.Stand.origin c.args.stand) (g.S.Stand.origin c.open.new.self.stand) (g.S.Stand.inputs c.args.stand)
    (g.I.Source.left c.args.input.now) (g.I.Source.left c.listen.new.input) (g.O.Sink.taken c.args.out.now)
    (g.O.Sink.taken c.say.new.out) (g.O.Sink.taken c.listen.new.out) (hearing g.S.Stand.inputs g.S.Stand.wanted c.open.new.self)
    c.in-Ok.said.over
    c.in-Ok.said.text.items c.listen.result goes.0 (c.in-Ok.ensures.same goes.0) c.in-Ok.ensures.said goes.1 c.listen.ensures.talks

pub returns-clause-talks : goal.returns-clause-talks
returns-clause-talks g c =
    spent_first (g.S.Stand.stands (g.S.Stand.origin c.args.stand)) (g.S.Stand.inputs c.args.stand) (g.I.Source.left c.args.input.now)
    (g.O.Sink.taken c.args.out.now)
    (g.O.Sink.taken c.close.new.out) c.close.result c.close.ensures.writes
