use Rattle.wf_resubmit.proofs.ChosenLemmas.{chosen_may_be_redone}
use Rattle.wf_resubmit.proofs.laws.what_is_chosen_may_be_redone.Goals as goal

pub returns : goal.returns
returns c = λ graph. chosen_may_be_redone graph
