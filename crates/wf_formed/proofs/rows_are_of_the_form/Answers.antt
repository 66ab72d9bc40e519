use Rattle.wf_formed.proofs.rows_are_of_the_form.Goals as goal

pub returns : goal.returns
returns c = λ d read none e around. (c.a_meaning_fits.ensures d read none e around).rows
