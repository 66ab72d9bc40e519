use Rattle.wf_layers.proofs.Laws.{rows_are_unique}
use Rattle.wf_layers.proofs.rows_are_unique.Goals as goal

pub returns : goal.returns
returns g c = λ d m depth falls local. rows_are_unique d m depth falls local
