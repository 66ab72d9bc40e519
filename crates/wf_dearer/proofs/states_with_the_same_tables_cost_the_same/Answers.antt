use Rattle.wf_dearer.proofs.CostLemmas.{same_costs}
use Rattle.wf_dearer.proofs.states_with_the_same_tables_cost_the_same.Goals as goal

pub returns : goal.returns
returns g c = λ d s q same items cost begun_weight weight one other costs costs'.
    same_costs d items cost begun_weight weight s q same one other costs costs'
