use Rattle.wf_quiet.proofs.Wanted.{quiet_by_ready, wanted_is_ready, ready_is_wanted}
use Rattle.wf_quiet.proofs.quiet_states_are_told_by_the_ready_set.Goals as goal

pub returns-clause-quiet : goal.returns-clause-quiet
returns-clause-quiet g c = λ answered d depth m s reached ready is. quiet_by_ready answered d m s depth reached ready is

pub returns-clause-wanted : goal.returns-clause-wanted
returns-clause-wanted g c = λ answered d depth m s reached ready is. ready_is_wanted answered d m s depth reached ready is

pub returns-clause-ready : goal.returns-clause-ready
returns-clause-ready g c = λ answered d depth m s reached ready is. wanted_is_ready answered d m s depth reached ready is
