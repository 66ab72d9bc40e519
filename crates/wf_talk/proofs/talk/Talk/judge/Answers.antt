use Rattle.wf_answers.specs.AnswerSeen.{answer_tree}
use Rattle.std.proofs.Common.{sym}
use Rattle.wf_talk.proofs.HearLemmas.{unwanted}
use Rattle.wf_talk.proofs.talk.Talk.judge.Goals as goal

pub returns-in_ok-words-clause-said : goal.returns-in_ok-words-clause-said
returns-in_ok-words-clause-said g c =
    let refused = unwanted (g.S.Stand.wanted c.args.self.now.stand) (answer_tree c.args.answer) c.is_wanted.result c.in_ok-words.words.items
    c.deref.result.now c.is_wanted.ensures c.if-is_wanted.false c.deref.ensures.value c.in_ok-words.ensures in
    rw (sym refused) c.refuse.ensures.said
