use Rattle.wf_fn_math.proofs.LawLemmas.{max-among, max-bound}
use Rattle.wf_fn_math.proofs.laws.max_is_the_greatest.Goals as goal

pub returns : goal.returns
returns c = record { among = max-among; bound = max-bound }
