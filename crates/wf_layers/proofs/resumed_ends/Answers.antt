use Rattle.wf_layers.proofs.OldTable.{any_ends}
use Rattle.wf_layers.proofs.resumed_ends.Goals as goal

pub returns : goal.returns
returns g c = λ d depth a b redo again r recall falls cl sb old. any_ends a b redo again d depth falls sb r recall old cl
