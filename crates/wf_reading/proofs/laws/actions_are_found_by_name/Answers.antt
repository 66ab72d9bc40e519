use Rattle.wf_reading.proofs.FindLemmas.{found}
use Rattle.wf_reading.proofs.laws.actions_are_found_by_name.Goals as goal

pub returns : goal.returns
returns c = λ k g. found k g
