use Rattle.wf_layers.proofs.Answered.{runs_so_far_are_runs}
use Rattle.wf_layers.proofs.runs_so_far_are_runs.Goals as goal

pub returns : goal.returns
returns g c = λ d m. runs_so_far_are_runs d m
