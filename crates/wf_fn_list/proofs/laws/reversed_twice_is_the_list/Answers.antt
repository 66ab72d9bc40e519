use Rattle.std.proofs.lemmas.List.{reverse-reverse}
use Rattle.wf_fn_list.proofs.laws.reversed_twice_is_the_list.Goals as goal

pub returns : goal.returns
returns c = reverse-reverse
