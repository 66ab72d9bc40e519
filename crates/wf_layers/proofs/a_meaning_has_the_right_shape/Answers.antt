use Rattle.wf_layers.proofs.Shape.{meaning_has_shape}
use Rattle.wf_layers.proofs.a_meaning_has_the_right_shape.Goals as goal

pub returns : goal.returns
returns g c = λ d m depth read falls local own back. meaning_has_shape d m depth falls local own read back
