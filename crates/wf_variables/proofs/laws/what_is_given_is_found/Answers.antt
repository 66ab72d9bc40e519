use Rattle.wf_variables.proofs.GivenLemmas.{given-found}
use Rattle.wf_variables.proofs.laws.what_is_given_is_found.Goals as goal

pub returns : goal.returns
returns c = given-found
