use Rattle.wf_plan.proofs.PlanOfLemmas.{plan_is}
use Rattle.wf_plan.proofs.laws.plans_are_of_their_graphs.Goals as goal

pub returns : goal.returns
returns c = plan_is
