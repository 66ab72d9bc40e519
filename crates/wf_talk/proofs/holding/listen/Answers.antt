use Rattle.std.proofs.Common.{◌≡◌, ◌∙◌, arith}
use Rattle.wf_talk.specs.Seen.{hearing}
use Rattle.wf_talk.proofs.TalkLemmas.{listens_on, stops_full, stops_on}
use Rattle.wf_talk.proofs.holding.listen.Goals as goal

pub returns-in-Some-clause-talks : goal.returns-in-Some-clause-talks
returns-in-Some-clause-talks g c = λ inputs left taken began.
    stops_on g.S.Stand.stands (g.S.Stand.origin c.args.talk.now.stand) (g.S.Stand.origin c.loop-taken.talk.stand) inputs left
    (g.I.Source.left c.loop-taken.input) (g.I.Source.left c.take_byte.new.input) taken (g.O.Sink.taken c.loop-taken.out)
    (g.O.Sink.taken c.take_byte.new.out) (hearing g.S.Stand.inputs g.S.Stand.wanted c.loop-taken.talk) c.loop-taken.rest.items
    c.loop-taken.taken c.in-Some.status
    c.loop-taken.invariant.same c.loop-taken-test.true (c.loop-taken.invariant.listens inputs left taken began) c.in-Some.ensures.stops

pub loop-taken-preserved : goal.loop-taken-preserved
loop-taken-preserved g c = record {
  numbered = omega (arith, c.loop-taken.invariant.numbered, c.take_byte.ensures.counted c.in_default.is);
  same = c.take_byte.ensures.same c.in_default.is ∙ c.loop-taken.invariant.same;
  calm_input = c.in_default.ensures.source ∙ c.loop-taken.invariant.calm_input;
  calm_out = c.in_default.ensures.sink ∙ c.loop-taken.invariant.calm_out;
  listens = λ inputs left taken began.
      listens_on g.S.Stand.stands (g.S.Stand.origin c.args.talk.now.stand) (g.S.Stand.origin c.loop-taken.talk.stand) inputs left
      (g.I.Source.left c.loop-taken.input) (g.I.Source.left c.take_byte.new.input) taken (g.O.Sink.taken c.loop-taken.out)
      (g.O.Sink.taken c.take_byte.new.out) (hearing g.S.Stand.inputs g.S.Stand.wanted c.loop-taken.talk)
      (hearing g.S.Stand.inputs g.S.Stand.wanted c.take_byte.new.talk)
      c.loop-taken.rest.items c.take_byte.new.rest.items c.loop-taken.taken c.loop-taken.invariant.same
      (c.loop-taken.invariant.listens inputs left taken began) (c.take_byte.ensures.goes c.in_default.is);
}

pub returns-clause-talks : goal.returns-clause-talks
returns-clause-talks g c = λ inputs left taken began.
    let full : c.loop-taken.taken ≡ 67108864 = omega (arith, c.loop-taken.auto.taken-end, c.loop-taken-test.false) in
    stops_full (g.S.Stand.stands (g.S.Stand.origin c.args.talk.now.stand)) inputs left (g.I.Source.left c.loop-taken.input) taken
    (g.O.Sink.taken c.loop-taken.out) (g.O.Sink.taken c.close.new.out) (hearing g.S.Stand.inputs g.S.Stand.wanted c.loop-taken.talk)
    c.loop-taken.rest.items
    c.loop-taken.taken c.close.result (c.loop-taken.invariant.listens inputs left taken began) full c.close.ensures.writes
