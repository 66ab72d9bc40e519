use Rattle.std.proofs.Common.{◌≡◌, ◌-◌, suc, map}
use Rattle.wf_answers.specs.AnswerSeen.{answer_tree}
use Rattle.wf_connect.specs.Last.{answered_at, last_attempt, last_from}
use Rattle.wf_doing.specs.Places.{named}
use Rattle.wf_doing.proofs.attempts.last_attempt.Given as goal

abbrev pub invariant-loop-made : goal.invariant-loop-made
invariant-loop-made l =
    last_from l.policy (answered_at (map answer_tree l.answers) (named l.name l.at)) (l.retries - l.made) (suc l.made)
    ≡ last_attempt l.policy (answered_at (map answer_tree l.answers) (named l.name l.at))
