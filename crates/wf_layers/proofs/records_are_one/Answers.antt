use Rattle.wf_layers.proofs.Record.{records_are_one}
use Rattle.wf_layers.proofs.records_are_one.Goals as goal

pub returns : goal.returns
returns g c = records_are_one
