use Rattle.wf_plan.proofs.OnceLemmas.{stand_once}
use Rattle.wf_plan.proofs.laws.actions_stand_once.Goals as goal

pub returns : goal.returns
returns c = stand_once
