use Rattle.wf_drive_laws.proofs.PickLemmas.{picked}
use Rattle.wf_drive_laws.proofs.picked_events_are_picked.Goals as goal

pub returns : goal.returns
returns g c = λ d depth m s reached place event p. picked d depth m s reached place event p
