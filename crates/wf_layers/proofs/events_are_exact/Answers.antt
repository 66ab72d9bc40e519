use Rattle.wf_layers.proofs.Enabled.{events_are_exact}
use Rattle.wf_layers.proofs.events_are_exact.Goals as goal

pub returns : goal.returns
returns g c = λ d m depth is. events_are_exact d m depth is
