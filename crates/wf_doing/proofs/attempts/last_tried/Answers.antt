use Rattle.std.proofs.Common.{map, ap, ◌∙◌}
use Rattle.wf_answers.specs.AnswerSeen.{answer_tree}
use Rattle.wf_connect.specs.Attempts.{tried}
use Rattle.wf_connect.specs.Last.{Answered, answered_at}
use Rattle.wf_retry.specs.declared.policy.Policy.{Policy}
use Rattle.wf_doing.specs.Places.{named}
use Rattle.wf_doing.proofs.AttemptLemmas.{last_is}
use Rattle.wf_doing.proofs.attempts.last_tried.Goals as goal

pub returns : goal.returns
returns c =
    let policy = c.args.policy.now in
    let answers : Answered = answered_at (map answer_tree c.args.answers.now) (named c.args.name.now c.args.at.now) in
    c.in_ok-tried.ensures
    ∙ ap (tried Policy.Never 1) (c.answer_at.ensures ∙ ap answers c.last_attempt-last.ensures)
    ∙ last_is policy answers (c.the_last_attempt_is_the_least.ensures.is policy answers)
