use Rattle.wf_recur.proofs.ReadLemmas.{read-next}
use Rattle.wf_recur.proofs.laws.the_first_due_moments_are_next.Goals as goal

pub returns : goal.returns
returns c = read-next
