use Rattle.std.proofs.Common.{refl}
use Rattle.std.proofs.lemmas.Option.{none-some}
use Rattle.wf_scheduled.proofs.NumberLemmas.{numbered}
use Rattle.wf_scheduled.proofs.attempts_and_iterations_are_numbered.Goals as goal

pub returns-clause-fresh : goal.returns-clause-fresh
returns-clause-fresh g c = record { running = λ x. refl; opens = λ x w found. absurd (none-some w found) }

pub returns-clause-numbered : goal.returns-clause-numbered
returns-clause-numbered g c = λ d m first s es new run. numbered d m first s es new run
