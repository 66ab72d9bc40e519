use Rattle.wf_fn_sets.proofs.SortLaws.{sorted-in_order, sorted-counted, sorted-stable}
use Rattle.wf_fn_sets.proofs.laws.sorted_items_are_in_order.Goals as goal

pub returns : goal.returns
returns c = record { ascending = sorted-in_order; as_often = sorted-counted; stable = sorted-stable }
