use Rattle.std.proofs.Common.{ap, sym, ◌∙◌}
use Rattle.std.specs.Prelude.{nat_eq}
use Rattle.std.specs.List.{list_any}
use Rattle.wf_def.specs.AllActions.{all_actions}
use Rattle.wf_meant_laws.proofs.NumberLemmas.{numbers_are}
use Rattle.wf_meant_laws.specs.Resubmitted.{pinned_source, pinned_table, resubmitted}
use Rattle.wf_meant_laws.proofs.RangeLemmas.{some_found}
use Rattle.wf_pinned.specs.Old.{recloses, redoes}
use Rattle.wf_pinned.proofs.PinnedLemmas.{is_answered}
use Rattle.wf_pinned.proofs.a_resubmission_is_answered.Goals as goal

pub returns : goal.returns
returns c = λ d read none r i from on.
    let is = c.a_definition_is_an_instance.ensures d read none (resubmitted r i) in
    is_answered d r i from on is.falls is.local (c.numbers_stand_once.ensures d read)
    (λ l held. some_found l (all_actions d.top)
    (ap (list_any (nat_eq l)) (numbers_are d.top) ∙ (sym (c.numbers_are_had.ensures d.top l) ∙ held)))
    (λ answers division obeys. c.new_rows_give_what_they_write.ensures d read (resubmitted r i) (pinned_source d r i from) answers
    (redoes d from) (recloses d from) division (pinned_table d r i from) obeys)
