use Rattle.wf_layers.proofs.Answered.{old_tables_agree}
use Rattle.wf_layers.proofs.old_tables_agree.Goals as goal

pub returns : goal.returns
returns g c = λ d depth a b redo again recall falls sb. old_tables_agree d depth a b redo again recall falls sb
