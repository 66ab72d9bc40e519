use Rattle.wf_layers.proofs.Enabled.{runs_grow}
use Rattle.wf_layers.proofs.runs_grow.Goals as goal

pub returns : goal.returns
returns g c = λ d m. runs_grow d m
