use Rattle.wf_fn_math.proofs.LawLemmas.{min-among, min-bound}
use Rattle.wf_fn_math.proofs.laws.min_is_the_least.Goals as goal

pub returns : goal.returns
returns c = record { among = min-among; bound = min-bound }
