use Rattle.wf_layers.proofs.Redone.{a_set_has_its_parts}
use Rattle.wf_layers.proofs.a_set_has_its_parts.Goals as goal

pub returns : goal.returns
returns c = λ d depth chosen once closed falls o. a_set_has_its_parts d depth chosen falls once closed o
