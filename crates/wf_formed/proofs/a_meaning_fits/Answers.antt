use Rattle.wf_formed.proofs.LawLemmas.{meant_fits}
use Rattle.wf_formed.proofs.a_meaning_fits.Goals as goal

pub returns : goal.returns
returns c = λ d read none e around.
    meant_fits c.what_is_evaluated_fits.ensures d (c.accepted_definitions_are_known.ensures d read none) e around
    (c.meant_rows_are_whole.ensures d read none e)
