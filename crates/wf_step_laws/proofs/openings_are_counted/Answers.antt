use Rattle.wf_step_laws.proofs.Entered.{openings_are_counted}
use Rattle.wf_step_laws.proofs.openings_are_counted.Goals as goal

pub returns : goal.returns
returns g c = λ d depth m s. openings_are_counted d depth m s
