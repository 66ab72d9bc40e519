use Rattle.wf_told.proofs.AlikeLemmas.{told_alike}
use Rattle.wf_told.proofs.laws.runs_are_told_alike.Goals as goal

pub returns : goal.returns
returns c = λ d read holds e schedule traced t u one other.
    told_alike d e schedule traced (c.a_definition_is_an_instance.ensures d read holds e) t u one other
