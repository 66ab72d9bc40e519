use Rattle.wf_priced.proofs.TellsLemmas.{told_same}
use Rattle.wf_priced.proofs.rows_of_one_table_cost_the_same.Goals as goal

pub returns : goal.returns
returns g c = λ f cost at row entries tells at' row' others tells'. told_same f cost at row entries tells at' row' others tells'
