use Rattle.wf_layers.proofs.OldTable.{any_exact}
use Rattle.wf_layers.proofs.events_of_resumed_states_are_exact.Goals as goal

pub returns : goal.returns
returns g c = λ d depth a b redo again r recall falls closed sb old. any_exact a b redo again d depth falls sb r recall old closed
