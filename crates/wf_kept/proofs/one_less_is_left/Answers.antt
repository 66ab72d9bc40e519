use Rattle.wf_kept.proofs.Known.{left_falls}
use Rattle.wf_kept.proofs.one_less_is_left.Goals as goal

pub returns : goal.returns
returns g c = λ d depth m s reached e s' st. left_falls d depth m s reached e s' st
