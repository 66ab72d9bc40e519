use Rattle.wf_planned.proofs.OrderLemmas.{read_ordered}
use Rattle.wf_planned.proofs.laws.entries_stand_in_order.Goals as goal

pub returns : goal.returns
returns c = read_ordered
