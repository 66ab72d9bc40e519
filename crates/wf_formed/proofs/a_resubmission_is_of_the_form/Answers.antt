use Rattle.wf_resubmit.specs.Refused.{numbers_of}
use Rattle.wf_pinned.specs.Resubmitted.{pinned}
use Rattle.wf_formed.proofs.a_resubmission_is_of_the_form.Goals as goal

pub returns : goal.returns
returns c = λ d read none r kept is i handed names may.
    c.a_fitting_record_is_of_the_form.ensures (pinned d r i (numbers_of d.top names))
    (c.a_resubmission_fits.ensures d read none r (c.a_record_of_the_form_fits.ensures r kept is) i handed names may)
