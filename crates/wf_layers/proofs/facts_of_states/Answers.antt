use Rattle.wf_layers.proofs.Facts.{facts_of_states}
use Rattle.wf_layers.proofs.facts_of_states.Goals as goal

pub returns : goal.returns
returns g c = λ d m depth is. facts_of_states d m depth is
