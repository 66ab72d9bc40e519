use Rattle.wf_recur.proofs.SameLemmas.{next-same}
use Rattle.wf_recur.proofs.laws.the_next_moments_are_one.Goals as goal

pub returns : goal.returns
returns c = next-same
