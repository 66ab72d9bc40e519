use Rattle.std.proofs.Common.{refl}
use Rattle.wf_quiet.proofs.Answered.{grows, joins}
use Rattle.wf_quiet.proofs.answered_runs_grow.Goals as goal

pub returns-clause-begun : goal.returns-clause-begun
returns-clause-begun g c = λ answered d m s. refl

pub returns-clause-grown : goal.returns-clause-grown
returns-clause-grown g c = λ answered d m es s mid run e s' has st. grows answered d m s es mid run e s' has st

pub returns-clause-joined : goal.returns-clause-joined
returns-clause-joined g c = λ answered d m es fs s mid s' run rest. joins answered d m s es mid run fs s' rest
