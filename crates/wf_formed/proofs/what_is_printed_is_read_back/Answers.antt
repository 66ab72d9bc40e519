use Rattle.wf_resubmit.specs.Refused.{numbers_of}
use Rattle.wf_pinned.specs.Record.{meaning}
use Rattle.wf_pinned.specs.Resubmitted.{pinned}
use Rattle.wf_formed.proofs.LawLemmas.{fitting_in_range}
use Rattle.wf_formed.proofs.what_is_printed_is_read_back.Goals as goal

pub returns-clause-meant : goal.returns-clause-meant
returns-clause-meant c = λ d read none e around.
    let fit = c.a_meaning_fits.ensures d read none e around in
    c.a_record_is_read_back.ensures (meaning d e) (fitting_in_range (meaning d e) fit)
    (c.a_fitting_record_is_of_the_form.ensures (meaning d e) fit)

pub returns-clause-resubmitted : goal.returns-clause-resubmitted
returns-clause-resubmitted c = λ d read none r fit i handed names may.
    let new = pinned d r i (numbers_of d.top names) in
    let fits = c.a_resubmission_fits.ensures d read none r fit i handed names may in
    c.a_record_is_read_back.ensures new (fitting_in_range new fits) (c.a_fitting_record_is_of_the_form.ensures new fits)
