use Rattle.wf_kept.proofs.Stored.{store_goes_on}
use Rattle.wf_kept.proofs.stores_go_on.Goals as goal

pub returns : goal.returns
returns g c = λ d depth m writes s v stored. store_goes_on d depth m writes s v stored
