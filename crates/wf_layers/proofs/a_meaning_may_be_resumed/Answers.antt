use Rattle.wf_layers.proofs.Resumed.{meaning_is_old_table}
use Rattle.wf_layers.proofs.a_meaning_may_be_resumed.Goals as goal

pub returns : goal.returns
returns g c = λ d depth a b redo again recall falls sa fa rs ot. meaning_is_old_table a b redo again d depth falls sa fa recall rs ot
