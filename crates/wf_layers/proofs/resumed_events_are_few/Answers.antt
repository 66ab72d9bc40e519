use Rattle.wf_layers.proofs.OldTable.{any_few}
use Rattle.wf_layers.proofs.resumed_events_are_few.Goals as goal

pub returns : goal.returns
returns g c = λ d depth a b redo again r recall falls closed sb old. any_few a b redo again d depth falls sb r recall old closed _ _ _
