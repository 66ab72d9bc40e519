use Rattle.wf_quiet.proofs.Wanted.{over}
use Rattle.wf_quiet.proofs.a_quiet_state_that_wants_nothing_is_over.Goals as goal

pub returns : goal.returns
returns g c = λ answered d m s quiet none. over answered d m s quiet none
