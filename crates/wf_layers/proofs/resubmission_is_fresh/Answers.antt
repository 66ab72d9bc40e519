use Rattle.wf_layers.proofs.Resubmission.{resubmission_is_fresh}
use Rattle.wf_layers.proofs.resubmission_is_fresh.Goals as goal

pub returns : goal.returns
returns g c = λ d depth a b redo again recall falls sa sb fa rs. resubmission_is_fresh a b redo again d depth falls sa sb fa rs.split recall rs
