use Rattle.wf_layers.proofs.Resubmission.{may_be_resubmitted_again}
use Rattle.wf_layers.proofs.a_resubmitted_record_may_be_resubmitted.Goals as goal

pub returns : goal.returns
returns g c = λ d depth a b redo again recall falls sa sb fa rs. may_be_resubmitted_again a b redo again d depth falls sa sb fa recall rs
