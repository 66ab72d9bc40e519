use Rattle.wf_quiet.proofs.Staying.{stays, waits_on}
use Rattle.wf_quiet.proofs.waiting_attempts_stay.Goals as goal

pub returns-clause-stay : goal.returns-clause-stay
returns-clause-stay g c = λ answered d m s x k w e s' has st. stays answered d m s x k w e s' has st

pub returns-clause-more : goal.returns-clause-more
returns-clause-more g c = λ answered d m more knows s made x k w more_answered none. waits_on answered d m more knows s made x k w more_answered none
