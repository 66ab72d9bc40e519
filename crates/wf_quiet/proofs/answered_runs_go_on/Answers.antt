use Rattle.wf_quiet.proofs.More.{run_goes_on}
use Rattle.wf_quiet.proofs.answered_runs_go_on.Goals as goal

pub returns : goal.returns
returns g c = λ answered more_answered d m more knows among es s run. run_goes_on answered d m more knows more_answered among es s run
