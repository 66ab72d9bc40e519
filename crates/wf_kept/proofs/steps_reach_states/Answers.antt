use Rattle.wf_kept.proofs.Known.{goes_on}
use Rattle.wf_kept.proofs.steps_reach_states.Goals as goal

pub returns : goal.returns
returns g c = λ d depth m s reached e s' st. goes_on d depth m s reached e s' st
