use Rattle.std.proofs.Common.{◌∙◌}
use Rattle.wf_resubmit.specs.Refused.{numbers_of}
use Rattle.wf_anew.proofs.old_answers_give_the_old_record.Goals as goal

pub returns : goal.returns
returns c = λ d r none e i names accepted old.
    c.a_resubmission_is_a_fresh_run.ensures d r none e i names accepted
    ∙ c.a_layer_of_old_answers_changes_nothing.ensures d e (numbers_of d.top names) i old
