use Rattle.wf_dearer.proofs.CostLemmas.{under_what_follows}
use Rattle.wf_dearer.proofs.a_state_costs_no_more_than_what_it_comes_to.Goals as goal

pub returns : goal.returns
returns g c = λ d depth m s reached es q run cost begun_weight weight pays before after costs costs'.
    under_what_follows d depth m s reached cost begun_weight weight pays es q run after costs' before costs
