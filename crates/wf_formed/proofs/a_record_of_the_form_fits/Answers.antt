use Rattle.wf_record.specs.Record.{record_value}
use Rattle.wf_formed.proofs.BackLemmas.{fits_back, in_order_back}
use Rattle.wf_formed.proofs.a_record_of_the_form_fits.Goals as goal

pub returns : goal.returns
returns c = λ r kept is.
    let back = c.a_record_is_read_back.ensures r kept.in_range is in
    fits_back r is kept.in_range kept.trigger (in_order_back r back (c.rows_are_read_in_order.ensures (record_value r) r back))
