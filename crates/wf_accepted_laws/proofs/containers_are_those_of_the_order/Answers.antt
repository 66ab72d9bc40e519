use Rattle.wf_accepted_laws.proofs.RoundLemmas.{all-round}
use Rattle.wf_accepted_laws.proofs.containers_are_those_of_the_order.Goals as goal

pub returns : goal.returns
returns c = λ g once. all-round g once
