use Rattle.wf_kept.proofs.Stored.{store_is_one}
use Rattle.wf_kept.proofs.stores_are_one.Goals as goal

pub returns : goal.returns
returns g c = λ d depth m writes order s v u stored other. store_is_one d depth m writes order s v stored u other
