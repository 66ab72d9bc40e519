use Rattle.wf_done.proofs.LocalLemmas.{begun-local, tracked-local}
use Rattle.wf_done.proofs.laws.what_an_action_does_is_local.Goals as goal

pub returns-clause-begun : goal.returns-clause-begun
returns-clause-begun c = begun-local c.values_are_local.ensures.template c.values_are_local.ensures.tree

pub returns-clause-tracked : goal.returns-clause-tracked
returns-clause-tracked c = tracked-local c.values_are_local.ensures.template c.values_are_local.ensures.tree
