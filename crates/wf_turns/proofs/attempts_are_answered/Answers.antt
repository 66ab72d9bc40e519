use Rattle.wf_known_laws.specs.AllActions.{numbered}
use Rattle.wf_turns.proofs.AnswerLemmas.{tries_answered}
use Rattle.wf_turns.proofs.attempts_are_answered.Goals as goal

pub returns : goal.returns
returns c = λ d e x b.
    tries_answered c.the_last_attempt_is_the_least.ensures.is c.the_last_attempt_is_the_least.ensures.kept d e x b (numbered x.name d.top)
