use Rattle.wf_step_laws.proofs.Idle.{no_row_then, not_open_then, not_running_then}
use Rattle.wf_step_laws.proofs.who_waits_stays_idle.Goals as goal

pub returns : goal.returns
returns g c = λ d depth m s reached e s' st pl q named. (
  no_row_then d depth m s reached e s' st pl q named,
  not_running_then d depth m s reached e s' st pl q named,
  not_open_then d depth m s reached e s' st pl q named,
)
