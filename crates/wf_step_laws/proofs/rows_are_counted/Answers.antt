use Rattle.wf_step_laws.proofs.Placed.{rows_are_counted}
use Rattle.wf_step_laws.proofs.rows_are_counted.Goals as goal

pub returns : goal.returns
returns g c = λ d depth m s. rows_are_counted d depth m s
