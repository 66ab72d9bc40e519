use Rattle.wf_layers.proofs.Waiting.{counts_are}
use Rattle.wf_layers.proofs.what_is_waited_for_is_counted.Goals as goal

pub returns : goal.returns
returns g c = counts_are
