use Rattle.wf_scheduled.proofs.RunningLemmas.{peak_more}
use Rattle.wf_scheduled.proofs.the_peak_grows.Goals as goal

pub returns : goal.returns
returns c = λ es e. peak_more 0 es e
