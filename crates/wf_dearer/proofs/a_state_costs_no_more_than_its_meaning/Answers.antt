use Rattle.wf_dearer.proofs.CostLemmas.{under_its_meaning}
use Rattle.wf_dearer.proofs.a_state_costs_no_more_than_its_meaning.Goals as goal

pub returns : goal.returns
returns g c = λ d depth m s reached cost begun_weight weight pays total costs at row entries tells.
    under_its_meaning d depth m s reached cost begun_weight weight pays total costs at row entries tells
