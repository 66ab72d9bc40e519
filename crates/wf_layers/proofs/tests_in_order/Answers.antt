use Rattle.wf_layers.proofs.Tests.{tests_in_order}
use Rattle.wf_layers.proofs.tests_in_order.Goals as goal

pub returns : goal.returns
returns g c = λ d m depth is. tests_in_order d m depth is
