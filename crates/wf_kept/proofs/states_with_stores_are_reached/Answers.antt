use Rattle.wf_kept.proofs.Stored.{stored_is_reached}
use Rattle.wf_kept.proofs.states_with_stores_are_reached.Goals as goal

pub returns : goal.returns
returns g c = λ d depth m writes s v stored. stored_is_reached d depth m writes s v stored
