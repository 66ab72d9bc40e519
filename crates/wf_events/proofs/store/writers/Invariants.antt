use Rattle.std.proofs.Common.{◌≡◌, ◌++◌, drop}
use Rattle.wf_events.specs.Written.{writers_of}
use Rattle.wf_events.proofs.store.writers.Given as goal

abbrev pub invariant-loop-variable : goal.invariant-loop-variable
invariant-loop-variable l = (l.writers.items ++ writers_of l.place (drop l.variable-index l.variables)) ≡ writers_of l.place l.variables
