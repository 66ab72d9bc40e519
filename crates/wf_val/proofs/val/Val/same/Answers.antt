use Rattle.wf_val.specs.ValueOrderLaws.{same-from_test}
use Rattle.wf_val.proofs.val.Val.same.Goals as goal

pub returns : goal.returns
returns c = same-from_test _ _ c.order.result c.eq.result c.order.ensures c.eq.ensures
