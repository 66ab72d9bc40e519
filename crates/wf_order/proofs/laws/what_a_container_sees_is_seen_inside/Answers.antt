use Rattle.wf_order.proofs.InsideLaws.{inside_seen}
use Rattle.wf_order.proofs.laws.what_a_container_sees_is_seen_inside.Goals as goal

pub returns : goal.returns
returns c = inside_seen
