use Rattle.wf_kept.proofs.Quiet.{counts_stay}
use Rattle.wf_kept.proofs.quiet_events_leave_counts.Goals as goal

pub returns : goal.returns
returns g c = λ d depth m s reached e s' st quiet. counts_stay d depth m s reached e s' st quiet
