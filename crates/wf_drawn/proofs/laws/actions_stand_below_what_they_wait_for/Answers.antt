use Rattle.wf_drawn.proofs.BelowLemmas.{stand_below, stand_exactly}
use Rattle.wf_drawn.proofs.laws.actions_stand_below_what_they_wait_for.Goals as goal

pub returns-clause-exact : goal.returns-clause-exact
returns-clause-exact c = stand_exactly

pub returns-clause-below : goal.returns-clause-below
returns-clause-below c = stand_below
