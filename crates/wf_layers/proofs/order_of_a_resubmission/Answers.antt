use Rattle.wf_layers.proofs.Redo.{redo_splits}
use Rattle.wf_layers.proofs.order_of_a_resubmission.Goals as goal

pub returns : goal.returns
returns c = λ d chosen redo again is. redo_splits d chosen redo again is
