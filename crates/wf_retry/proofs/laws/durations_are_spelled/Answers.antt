use Rattle.wf_retry.proofs.DurationLemmas.{exact}
use Rattle.wf_retry.proofs.laws.durations_are_spelled.Goals as goal

pub returns : goal.returns
returns c = λ s. exact s
