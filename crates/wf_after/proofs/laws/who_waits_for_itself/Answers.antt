use Rattle.wf_after.specs.Waits.{nodes}
use Rattle.wf_after.proofs.laws.who_waits_for_itself.Goals as goal

pub returns : goal.returns
returns c = λ graph place. c.paths_are_exact.ensures.cycles (nodes graph graph) place
