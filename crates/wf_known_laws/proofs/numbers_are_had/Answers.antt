use Rattle.wf_known_laws.proofs.LayeredLemmas.{graph-had}
use Rattle.wf_known_laws.proofs.numbers_are_had.Goals as goal

pub returns : goal.returns
returns c = λ graph m. graph-had m graph
