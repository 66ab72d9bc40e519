use Rattle.wf_layers.proofs.OldTable.{any_rows}
use Rattle.wf_layers.proofs.resumed_rows.Goals as goal

pub returns : goal.returns
returns g c = λ d depth a b redo again r recall falls cl sb old. any_rows a b redo again d depth falls sb r recall old cl
