use Rattle.wf_scheduled.proofs.TurnLemmas.{grow}
use Rattle.wf_scheduled.proofs.turns_grow.Goals as goal

pub returns : goal.returns
returns g c = λ d m schedule k s mid s' es e turns t. grow d m schedule k s mid s' es e turns t
