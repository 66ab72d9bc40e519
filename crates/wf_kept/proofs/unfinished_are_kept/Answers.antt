use Rattle.wf_kept.proofs.Unfinished.{left_is_kept}
use Rattle.wf_kept.proofs.unfinished_are_kept.Goals as goal

pub returns : goal.returns
returns g c = λ d depth m s reached. left_is_kept d depth m s reached
