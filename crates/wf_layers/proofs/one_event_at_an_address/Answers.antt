use Rattle.wf_layers.proofs.OneEvent.{one_event_at_an_address}
use Rattle.wf_layers.proofs.one_event_at_an_address.Goals as goal

pub returns : goal.returns
returns g c = λ d m depth is. one_event_at_an_address d m depth is
