use Rattle.wf_loops.proofs.InsideLemmas.{seen_inside}
use Rattle.wf_loops.proofs.what_stands_inside_is_seen_along.Goals as goal

pub returns : goal.returns
returns c = λ g once n x z kind is inner begins seen. seen_inside g once n x z kind is inner begins seen
