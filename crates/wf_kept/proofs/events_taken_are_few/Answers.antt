use Rattle.wf_kept.proofs.Taken.{taken_are_few}
use Rattle.wf_kept.proofs.events_taken_are_few.Goals as goal

pub returns : goal.returns
returns g c = λ d depth m s reached. taken_are_few d depth m s reached
