use Rattle.wf_one_quiet.proofs.One.{answered_states_are_behind}
use Rattle.wf_one_quiet.proofs.answered_states_are_behind.Goals as goal

pub returns : goal.returns
returns g c = λ answered d m depth is q quiet es s run. answered_states_are_behind answered d m depth is q quiet es s run
