use Rattle.wf_tap.proofs.WholeLemmas.{all_plain}
use Rattle.wf_tap.proofs.laws.lines_are_whole.Goals as goal

pub returns : goal.returns
returns c = all_plain
