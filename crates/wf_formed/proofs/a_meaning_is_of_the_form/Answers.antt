use Rattle.wf_pinned.specs.Record.{meaning}
use Rattle.wf_formed.proofs.a_meaning_is_of_the_form.Goals as goal

pub returns : goal.returns
returns c = λ d read none e around.
    c.a_fitting_record_is_of_the_form.ensures (meaning d e) (c.a_meaning_fits.ensures d read none e around)
