use Rattle.wf_scheduled.proofs.RunningLemmas.{running_counted}
use Rattle.wf_scheduled.proofs.running_leaves_are_counted.Goals as goal

pub returns : goal.returns
returns g c = λ d m first s es new run places are. running_counted d m first s es new run places are
