use Rattle.wf_kept.proofs.Edited.{edits_are_exact}
use Rattle.wf_kept.proofs.the_ready_set_is_kept.Goals as goal

pub returns : goal.returns
returns g c = λ d depth m s reached e s' st. edits_are_exact d depth m s reached e s' st
