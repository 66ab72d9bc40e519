use Rattle.wf_layers.proofs.Laws.{part_is_unique}
use Rattle.wf_layers.proofs.part_is_unique.Goals as goal

pub returns : goal.returns
returns g c = λ d m depth falls local. part_is_unique d m depth falls local
