use Rattle.wf_plan.proofs.ExactLemmas.{plans_are_exact}
use Rattle.wf_plan.proofs.laws.plans_are_exact.Goals as goal

pub returns : goal.returns
returns c = plans_are_exact
