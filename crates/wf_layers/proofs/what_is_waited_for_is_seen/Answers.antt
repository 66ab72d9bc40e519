use Rattle.wf_layers.proofs.Seen.{what_is_waited_for}
use Rattle.wf_layers.proofs.what_is_waited_for_is_seen.Goals as goal

pub returns : goal.returns
returns c = λ d once closed. what_is_waited_for d once closed
