use Rattle.wf_talk.specs.Seen.{hearing}
use Rattle.wf_talk.proofs.HearLemmas.{none_left, open_at_once, open_behind_line, over_with_line, some_left}
use Rattle.wf_talk.proofs.talk.Talk.finish.Goals as goal

pub returns-then-is_empty : goal.returns-then-is_empty
returns-then-is_empty g c =
    open_at_once (g.S.Stand.stands (g.S.Stand.origin c.args.self.now.stand)) (hearing g.S.Stand.inputs g.S.Stand.wanted c.args.self.now)
    c.args.rest.now c.new.result.items c.leave.result (none_left c.args.rest.now c.is_empty.result c.is_empty.ensures c.if-is_empty.true)
    c.new.ensures.items c.leave.ensures.end c.leave.ensures.text

pub returns-in-Some : goal.returns-in-Some
returns-in-Some g c =
    over_with_line (g.S.Stand.stands (g.S.Stand.origin c.args.self.now.stand)) (hearing g.S.Stand.inputs g.S.Stand.wanted c.args.self.now)
    (hearing g.S.Stand.inputs g.S.Stand.wanted c.hear.new.self) c.args.rest.now c.in_ok-text.field-0.text.items
    c.in_ok-text.field-0.over c.in-Some.end
    (some_left c.args.rest.now c.is_empty.result c.is_empty.ensures c.if-is_empty.false) c.in-Some.is
    c.in_ok-text.ensures.said

pub returns-in-None : goal.returns-in-None
returns-in-None g c =
    open_behind_line (g.S.Stand.stands (g.S.Stand.origin c.args.self.now.stand)) (hearing g.S.Stand.inputs g.S.Stand.wanted c.args.self.now)
    (hearing g.S.Stand.inputs g.S.Stand.wanted c.hear.new.self) c.args.rest.now c.in_ok-text.field-0.text.items c.in_ok-text.field-0.over
    c.leave-in-None.result (some_left c.args.rest.now c.is_empty.result c.is_empty.ensures c.if-is_empty.false)
    c.in-None.is c.in_ok-text.ensures.said c.leave-in-None.ensures.end c.leave-in-None.ensures.text
