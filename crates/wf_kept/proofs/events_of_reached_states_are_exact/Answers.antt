use Rattle.wf_kept.proofs.Known.{exact_there}
use Rattle.wf_kept.proofs.events_of_reached_states_are_exact.Goals as goal

pub returns : goal.returns
returns g c = λ d depth m s reached. exact_there d depth m s reached
