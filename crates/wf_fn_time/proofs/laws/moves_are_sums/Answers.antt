use Rattle.wf_fn_time.proofs.LawLemmas.{sum, undone}
use Rattle.wf_fn_time.proofs.laws.moves_are_sums.Goals as goal

pub returns : goal.returns
returns c = record { sum = sum; undone = undone }
