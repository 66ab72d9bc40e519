use Rattle.wf_told.proofs.MeasureLemmas.{as_many_steps}
use Rattle.wf_told.proofs.laws.runs_have_as_many_steps.Goals as goal

pub returns : goal.returns
returns c = λ d read holds e one other traced again t u.
    as_many_steps d e one other traced again (c.a_definition_is_an_instance.ensures d read holds e) t u
