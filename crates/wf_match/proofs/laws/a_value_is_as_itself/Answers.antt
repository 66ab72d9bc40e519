use Rattle.wf_match.proofs.DifferenceLemmas.{as_itself}
use Rattle.wf_match.proofs.laws.a_value_is_as_itself.Goals as goal

pub returns : goal.returns
returns c = as_itself
