use Rattle.wf_one_quiet.proofs.One.{to_the_quiet_state}
use Rattle.wf_one_quiet.proofs.answered_runs_go_on_to_the_quiet_state.Goals as goal

pub returns : goal.returns
returns g c = λ answered d m depth is q quiet es s run. to_the_quiet_state answered d m depth is q quiet es s run
