use Rattle.wf_scheduled.proofs.HappenedLemmas.{happened}
use Rattle.wf_scheduled.proofs.what_has_happened_is_there.Goals as goal

pub returns : goal.returns
returns g c = λ d depth m first before s es e reached new run st. happened d depth m first before s es reached new run e st
