use Rattle.wf_step_laws.proofs.Idle.{apart, no_row, not_open, not_running}
use Rattle.wf_step_laws.proofs.who_waits_is_idle.Goals as goal

pub returns : goal.returns
returns g c = λ d depth m s reached e s' st pl q named. (
  apart d depth m s reached e s' st pl q named,
  no_row d depth m s reached e s' st pl q named,
  not_running d depth m s reached e s' st pl q named,
  not_open d depth m s reached e s' st pl q named,
)
