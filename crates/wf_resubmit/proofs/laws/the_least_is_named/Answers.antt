use Rattle.wf_resubmit.proofs.LeastLemmas.{least_is}
use Rattle.wf_resubmit.proofs.laws.the_least_is_named.Goals as goal

pub returns : goal.returns
returns c = λ holds names. least_is holds names
