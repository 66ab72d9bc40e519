use Rattle.wf_layers.proofs.Record.{a_resubmission_has_a_record}
use Rattle.wf_layers.proofs.a_resubmission_has_a_record.Goals as goal

pub returns : goal.returns
returns g c = λ d depth a b redo again r recall falls sb at row rows lists. a_resubmission_has_a_record d depth a b redo again r recall falls sb at row rows lists
