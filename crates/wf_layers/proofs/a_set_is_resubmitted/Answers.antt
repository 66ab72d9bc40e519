use Rattle.wf_layers.proofs.Chosen.{set_is_resubmission, set_keeps_others}
use Rattle.wf_layers.proofs.a_set_is_resubmitted.Goals as goal

pub returns : goal.returns
returns g c = λ d depth a b chosen redo again recall falls sa fa rs. (set_is_resubmission d depth a b chosen redo again recall falls sa fa rs, set_keeps_others d depth a b chosen redo again recall falls sa fa rs)
