use Rattle.std.proofs.Common.{[], Some}
use Rattle.wf_match.proofs.DifferenceLemmas.{one_of}
use Rattle.wf_match.proofs.RecordLemmas.{record_one}
use Rattle.wf_match.proofs.laws.each_difference_is_one.Goals as goal

pub returns : goal.returns
returns c = record { of_value = λ e t d formed listed. one_of [] e (Some t) d formed listed; of_record = record_one }
