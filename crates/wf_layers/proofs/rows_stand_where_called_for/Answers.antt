use Rattle.wf_layers.proofs.Laws.{rows_where_called_for}
use Rattle.wf_layers.proofs.rows_stand_where_called_for.Goals as goal

pub returns : goal.returns
returns g c = λ d m depth falls local own. rows_where_called_for d m depth falls local own
