use Rattle.wf_order.proofs.SeenLaws.{before_seen}
use Rattle.wf_order.proofs.laws.what_is_before_is_seen.Goals as goal

pub returns : goal.returns
returns c = before_seen
