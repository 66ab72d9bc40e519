use Rattle.wf_trigger.proofs.StartLemmas.{with_body-kept}
use Rattle.wf_trigger.proofs.laws.a_body_is_replaced.Goals as goal

pub returns : goal.returns
returns c = with_body-kept
