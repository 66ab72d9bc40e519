use Rattle.wf_top.proofs.Alike.{words_alike}
use Rattle.wf_top.proofs.laws.one_thing_is_said.Goals as goal

pub returns : goal.returns
returns c = words_alike c.one_text_is_told.ensures (record {
  text = c.one_resubmission_is_told.ensures;
  reason = c.one_reason_against_a_resubmission.ensures.one;
  beside = c.one_reason_against_a_resubmission.ensures.none;
}) (record { one = c.one_measure_is_told.ensures.one; beside = c.one_measure_is_told.ensures.none })
    c.a_drill_is_in_form.ensures
