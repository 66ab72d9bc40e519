use Rattle.wf_kept.proofs.Edited.{refreshes_are_exact}
use Rattle.wf_kept.proofs.the_ready_set_is_refreshed.Goals as goal

pub returns : goal.returns
returns g c = λ d depth m s reached e s' st. refreshes_are_exact d depth m s reached e s' st
