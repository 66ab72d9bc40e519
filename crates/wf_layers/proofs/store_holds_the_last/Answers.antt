use Rattle.wf_layers.proofs.Store.{store_holds}
use Rattle.wf_layers.proofs.store_holds_the_last.Goals as goal

pub returns : goal.returns
returns g c = λ d m depth writes is. store_holds d m depth is writes
