use Rattle.wf_drill.proofs.FormLemmas.{definition_well}
use Rattle.wf_drill.proofs.laws.a_drill_is_in_form.Goals as goal

pub returns : goal.returns
returns c = definition_well
