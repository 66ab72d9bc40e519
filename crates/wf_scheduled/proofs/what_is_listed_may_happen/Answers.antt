use Rattle.wf_scheduled.proofs.TurnLemmas.{listed_is}
use Rattle.wf_scheduled.proofs.what_is_listed_may_happen.Goals as goal

pub returns : goal.returns
returns g c = λ d depth m s reached listed order same. listed_is d m depth s reached listed order same
