use Rattle.wf_quiet.proofs.Answered.{is_run}
use Rattle.wf_quiet.proofs.answered_runs_are_runs.Goals as goal

pub returns : goal.returns
returns g c = λ answered d m es s s' run. is_run answered d m s es s' run
