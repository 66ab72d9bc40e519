use Rattle.wf_layers.proofs.Changes.{events_change_only_there}
use Rattle.wf_layers.proofs.events_change_only_there.Goals as goal

pub returns : goal.returns
returns g c = λ d m depth is. events_change_only_there d m depth is
