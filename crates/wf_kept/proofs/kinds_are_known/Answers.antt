use Rattle.wf_kept.proofs.Informed.{kinds_are_known}
use Rattle.wf_kept.proofs.kinds_are_known.Goals as goal

pub returns : goal.returns
returns g c = λ d depth m s reached. kinds_are_known d depth m s reached
