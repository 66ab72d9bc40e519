use Rattle.std.proofs.Common.{map, ap, ◌∙◌, arith}
use Rattle.wf_talk.specs.Seen.{after, hearing, want_key}
use Rattle.wf_talk.proofs.HearLemmas.{opens}
use Rattle.wf_talk.proofs.talk.Talk.open.Goals as goal

pub returns-clause-said : goal.returns-clause-said
returns-clause-said g c =
    opens (g.S.Stand.stands (g.S.Stand.origin c.args.self.now.stand)) (hearing g.S.Stand.inputs g.S.Stand.wanted c.args.self.now)
    (g.S.Stand.wanted c.args.self.now.stand)
    (map want_key c.deref.result.now) (λ end. after end (hearing g.S.Stand.inputs g.S.Stand.wanted c.tell.new.self)) c.tell.result
    (ap (map want_key) c.deref.ensures.value ∙ c.in_ok-wants.ensures) c.requires (omega (arith, c.args.self.now.among, c.requires))
    c.tell.ensures.said
