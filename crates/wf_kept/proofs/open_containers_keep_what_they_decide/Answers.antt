use Rattle.wf_kept.proofs.Informed.{open_decides}
use Rattle.wf_kept.proofs.open_containers_keep_what_they_decide.Goals as goal

pub returns : goal.returns
returns g c = λ d depth m s reached. open_decides d depth m s reached
