use Rattle.wf_opening.proofs.FitLemmas.{chosen-fits, each-fits}
use Rattle.wf_opening.proofs.laws.what_a_container_keeps_fits.Goals as goal

pub returns-clause-chosen : goal.returns-clause-chosen
returns-clause-chosen c = chosen-fits c.what_is_given_fits.ensures.template c.what_is_given_fits.ensures.tree

pub returns-clause-each : goal.returns-clause-each
returns-clause-each c = each-fits c.what_is_given_fits.ensures.template c.what_is_given_fits.ensures.tree
