use Rattle.wf_val.specs.Seen.{tree}
use Rattle.wf_record_form.specs.Reading.{record_of}
use Rattle.wf_record_form.proofs.OrderLemmas.{rows_in_order}
use Rattle.wf_record_form.proofs.reading.of_val.Goals as goal

-- a value that was judged to be a record has its rows in order
pub record_of-requires : goal.record_of-requires
record_of-requires c = rows_in_order (tree c.args.value.now) (record_of (tree c.args.value.now)) c.in_ok-judge.ensures.record
