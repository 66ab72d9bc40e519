use Rattle.wf_pinned.specs.Old.{MayGoOn}
use Rattle.wf_resubmit.specs.Refused.{numbers_of}
use Rattle.wf_pinned.specs.Resubmitted.{resubmitted}
use Rattle.wf_formed.proofs.LawLemmas.{pinned_fits}
use Rattle.wf_formed.proofs.a_resubmission_fits.Goals as goal

pub returns : goal.returns
returns c = λ d read none r fit i handed names may.
    let from = numbers_of d.top names in
    let on : MayGoOn d r i from = record {
      whole = c.kept_rows_are_whole.ensures d read r names may;
      given = c.kept_rows_give_what_they_write.ensures d read r names may;
      table = c.record_is_an_old_table.ensures d read r names may (resubmitted r i);
    } in
    pinned_fits c.what_is_evaluated_fits.ensures d (c.accepted_definitions_are_known.ensures d read none) r i from fit handed
    (c.a_resubmission_is_answered.ensures d read none r i from on).whole
