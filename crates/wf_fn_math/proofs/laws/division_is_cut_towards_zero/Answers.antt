use Rattle.std.proofs.lemmas.Int.{quot-rem, rem_below}
use Rattle.wf_fn_math.proofs.LawLemmas.{rem-not_below, rem-not_above}
use Rattle.wf_fn_math.proofs.laws.division_is_cut_towards_zero.Goals as goal

pub returns : goal.returns
returns c = record { whole = quot-rem; smaller = rem_below; not_below = rem-not_below; not_above = rem-not_above }
