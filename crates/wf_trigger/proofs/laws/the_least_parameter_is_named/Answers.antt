use Rattle.wf_trigger.proofs.ParameterLemmas.{first_failing-least}
use Rattle.wf_trigger.proofs.laws.the_least_parameter_is_named.Goals as goal

pub returns : goal.returns
returns c = first_failing-least
