use Rattle.wf_kept.proofs.Followers.{followers_are_there}
use Rattle.wf_kept.proofs.followers_are_there.Goals as goal

pub returns : goal.returns
returns g c = λ d depth m s reached. followers_are_there d depth m s reached
