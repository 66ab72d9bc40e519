use Rattle.std.proofs.Common.{◌≡◌, ◌-◌, ◌++◌, suc, map}
use Rattle.wf_answers.specs.AnswerSeen.{answer_tree}
use Rattle.wf_connect.specs.Last.{answered_at, tries_from}
use Rattle.wf_doing.specs.Places.{named}
use Rattle.wf_doing.proofs.attempts.tries_made.Given as goal

abbrev pub invariant-loop-made : goal.invariant-loop-made
invariant-loop-made l =
    l.tries ++ tries_from (answered_at (map answer_tree l.answers) (named l.name l.at)) (l.count - l.made) (suc l.made)
    ≡ tries_from (answered_at (map answer_tree l.answers) (named l.name l.at)) l.count 1
