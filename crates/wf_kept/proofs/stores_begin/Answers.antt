use Rattle.std.proofs.Common.{[], refl}
use Rattle.wf_kept.specs.Stored.{begun, resumed}
use Rattle.wf_kept.proofs.stores_begin.Goals as goal

pub returns-clause-begun : goal.returns-clause-begun
returns-clause-begun g c = λ d depth m writes is. begun [] is (refl, refl)

pub returns-clause-resumed : goal.returns-clause-resumed
returns-clause-resumed g c =
    λ d depth a b writes redo again r recall v falls closed sb old last.
    resumed a b redo again r recall v [] falls closed sb old last (refl, refl)
