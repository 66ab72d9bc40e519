use Rattle.wf_layers.proofs.Instances.{rows_at_instances}
use Rattle.wf_layers.proofs.rows_stand_at_instances.Goals as goal

pub returns : goal.returns
returns g c = λ d m depth falls local own. rows_at_instances d m depth falls local own
