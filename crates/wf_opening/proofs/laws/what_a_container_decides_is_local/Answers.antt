use Rattle.wf_opening.proofs.LocalLemmas.{decided-local, tested-local}
use Rattle.wf_opening.proofs.laws.what_a_container_decides_is_local.Goals as goal

pub returns-clause-decided : goal.returns-clause-decided
returns-clause-decided c =
    decided-local c.values_are_local.ensures.template c.values_are_local.ensures.tree c.values_are_local.ensures.condition

pub returns-clause-tested : goal.returns-clause-tested
returns-clause-tested c =
    tested-local c.values_are_local.ensures.template c.values_are_local.ensures.tree c.values_are_local.ensures.condition
