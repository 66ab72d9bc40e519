use Rattle.wf_redo.proofs.Redoes.{exactly}
use Rattle.wf_redo.proofs.laws.a_set_redoes.Goals as goal

pub returns : goal.returns
returns c = λ d chosen redo again once closed there is. exactly d chosen redo again once closed there is
