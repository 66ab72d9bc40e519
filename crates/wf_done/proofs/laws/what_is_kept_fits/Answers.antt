use Rattle.wf_done.proofs.FitLemmas.{begun-fits}
use Rattle.wf_done.proofs.laws.what_is_kept_fits.Goals as goal

pub returns : goal.returns
returns c = begun-fits c.what_is_given_fits.ensures.tree
