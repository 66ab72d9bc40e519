use Rattle.wf_meter.proofs.StayLemmas.{decisions_stay}
use Rattle.wf_meter.proofs.decisions_stay.Goals as goal

pub returns : goal.returns
returns g c = λ d m s e s' st no x. decisions_stay d m s e s' st no x
