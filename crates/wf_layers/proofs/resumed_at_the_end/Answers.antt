use Rattle.wf_layers.proofs.OldTable.{any_at_the_end}
use Rattle.wf_layers.proofs.resumed_at_the_end.Goals as goal

pub returns : goal.returns
returns g c = λ d depth a b redo again r recall falls cl t sb old. any_at_the_end a b redo again d depth falls sb r recall old cl t
