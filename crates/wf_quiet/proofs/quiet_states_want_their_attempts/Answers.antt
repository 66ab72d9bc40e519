use Rattle.wf_quiet.proofs.Wanted.{wants, enabled, one_attempt}
use Rattle.wf_quiet.proofs.quiet_states_want_their_attempts.Goals as goal

pub returns-clause-wanted : goal.returns-clause-wanted
returns-clause-wanted g c = λ answered d m s quiet. wants answered d m s quiet

pub returns-clause-enabled : goal.returns-clause-enabled
returns-clause-enabled g c = λ answered d m s x k wanted. enabled answered d m s x k wanted

pub returns-clause-one : goal.returns-clause-one
returns-clause-one g c = λ answered d m s x k l a b. one_attempt answered d m s x k l a b
