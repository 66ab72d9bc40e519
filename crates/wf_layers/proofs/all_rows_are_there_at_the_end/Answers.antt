use Rattle.wf_layers.proofs.Progress.{all_rows_at_the_end}
use Rattle.wf_layers.proofs.all_rows_are_there_at_the_end.Goals as goal

pub returns : goal.returns
returns g c = λ d m depth is. all_rows_at_the_end d m depth is
