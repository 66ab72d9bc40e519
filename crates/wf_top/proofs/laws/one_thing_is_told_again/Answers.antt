use Rattle.wf_top.proofs.Alike.{told_again_alike}
use Rattle.wf_top.proofs.laws.one_thing_is_told_again.Goals as goal

pub returns : goal.returns
returns c = told_again_alike (record {
  text = c.one_resubmission_is_told.ensures;
  reason = c.one_reason_against_a_resubmission.ensures.one;
  beside = c.one_reason_against_a_resubmission.ensures.none;
})
