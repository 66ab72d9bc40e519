use Rattle.wf_events.proofs.EventLemmas.{idle_same, open_same}
use Rattle.wf_events.proofs.laws.shapes_tell_events.Goals as goal

pub returns-clause-opened : goal.returns-clause-opened
returns-clause-opened g c = λ d m s waits lacks left n i. open_same d m s waits lacks left n i

pub returns-clause-idle : goal.returns-clause-idle
returns-clause-idle g c = λ d m s waits lacks left n i. idle_same d m s waits lacks left n i
