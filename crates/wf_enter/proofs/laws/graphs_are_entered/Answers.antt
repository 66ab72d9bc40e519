use Rattle.wf_enter.proofs.EnteredLemmas.{iteration_is_entered, opening_is_entered}
use Rattle.wf_enter.proofs.laws.graphs_are_entered.Goals as goal

pub returns-clause-opened : goal.returns-clause-opened
returns-clause-opened g c =
    λ d depth m s reached n i s' st p plan kind kn w ew. opening_is_entered d depth m s reached n i s' st p plan kind kn w ew

pub returns-clause-begun : goal.returns-clause-begun
returns-clause-begun g c =
    λ d depth m s reached n i s' st p plan kind kn u eu. iteration_is_entered d depth m s reached n i s' st p plan kind kn u eu
