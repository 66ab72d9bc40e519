use Rattle.wf_talk.specs.Seen.{hearing, number}
use Rattle.wf_talk.proofs.HoldLemmas.{end_finished, end_spent}
use Rattle.wf_talk.proofs.holding.end_input.Goals as goal

pub returns-in-Ok-clause-stops : goal.returns-in-Ok-clause-stops
returns-in-Ok-clause-stops g c =
    end_finished (g.S.Stand.stands (g.S.Stand.origin c.args.talk.now.stand)) (hearing g.S.Stand.inputs g.S.Stand.wanted c.args.talk.now)
    c.args.rest.now (g.O.Sink.taken c.args.out.now) (g.O.Sink.taken c.close.new.out) (number c.in-Ok.field-0.end)
    c.in-Ok.field-0.text.items c.number.result
    c.deref.result.now c.close.result c.number.ensures c.deref.ensures.value c.in-Ok.ensures
    c.close.ensures.writes

pub returns-in-Err-clause-stops : goal.returns-in-Err-clause-stops
returns-in-Err-clause-stops g c =
    end_spent (g.S.Stand.stands (g.S.Stand.origin c.args.talk.now.stand)) (hearing g.S.Stand.inputs g.S.Stand.wanted c.args.talk.now)
    c.args.rest.now (g.O.Sink.taken c.args.out.now) (g.O.Sink.taken c.close-in-Err.new.out) c.close-in-Err.result
    c.close-in-Err.ensures.writes
