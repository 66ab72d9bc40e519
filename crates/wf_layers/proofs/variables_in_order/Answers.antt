use Rattle.wf_layers.proofs.Variables.{variables_in_order}
use Rattle.wf_layers.proofs.variables_in_order.Goals as goal

pub returns : goal.returns
returns g c = λ d m depth is. variables_in_order d m depth is
