use Rattle.wf_uses.proofs.NameLemmas.{ordered-in_order, ordered-same}
use Rattle.wf_uses.proofs.laws.names_are_those_named.Goals as goal

pub returns-clause-same : goal.returns-clause-same
returns-clause-same c = ordered-same

pub returns-clause-in_order : goal.returns-clause-in_order
returns-clause-in_order c = ordered-in_order
