use Rattle.wf_layers.proofs.Resubmission.{old_answers_give_the_old_rows}
use Rattle.wf_layers.proofs.old_answers_give_the_old_rows.Goals as goal

pub returns : goal.returns
returns g c = λ d depth a b redo again recall falls sa sb fa no rs. old_answers_give_the_old_rows a b redo again d depth falls sa sb fa recall rs no
