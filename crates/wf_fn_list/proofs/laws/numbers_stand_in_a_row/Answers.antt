use Rattle.wf_fn_list.proofs.RangeLemmas.{numbers-count, number-at, numbers-too_big}
use Rattle.wf_fn_list.proofs.laws.numbers_stand_in_a_row.Goals as goal

pub returns : goal.returns
returns c = record { count = numbers-count; at = number-at; too_big = numbers-too_big }
