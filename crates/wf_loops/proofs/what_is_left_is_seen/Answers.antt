use Rattle.wf_loops.proofs.LeftLemmas.{left_seen}
use Rattle.wf_loops.proofs.what_is_left_is_seen.Goals as goal

pub returns : goal.returns
returns c = λ g once z x l shared left seen. left_seen g once x z l left.others shared left.left left.each_loop left.begins seen
