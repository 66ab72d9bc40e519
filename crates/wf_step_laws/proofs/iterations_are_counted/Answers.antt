use Rattle.wf_step_laws.proofs.Entered.{iterations_are_counted}
use Rattle.wf_step_laws.proofs.iterations_are_counted.Goals as goal

pub returns : goal.returns
returns g c = λ d depth m s. iterations_are_counted d depth m s
