use Rattle.wf_layers.proofs.Progress.{rows_are_the_meanings}
use Rattle.wf_layers.proofs.rows_are_the_meanings.Goals as goal

pub returns : goal.returns
returns g c = λ d m depth is. rows_are_the_meanings d m depth is
