use Rattle.wf_record_form.proofs.OrderLemmas.{rows_in_order}
use Rattle.wf_record_form.proofs.laws.rows_are_read_in_order.Goals as goal

pub returns : goal.returns
returns c = rows_in_order
