use Rattle.wf_drill.proofs.SizeLemmas.{numbers_count}
use Rattle.wf_drill.proofs.laws.a_schedule_has_so_many_numbers.Goals as goal

pub returns : goal.returns
returns c = numbers_count
