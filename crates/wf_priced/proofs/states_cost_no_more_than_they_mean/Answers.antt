use Rattle.wf_priced.proofs.WithinLemmas.{all_there, within}
use Rattle.wf_priced.proofs.states_cost_no_more_than_they_mean.Goals as goal

pub returns-clause-within : goal.returns-clause-within
returns-clause-within g c = λ see started decided told d depth m rows running opens reached by_rows by_running by_opens cost begun_weight weight
    pays at row entries tells.
    within see started decided told d depth m rows running opens reached by_rows by_running by_opens cost begun_weight weight pays at row
    entries tells

pub returns-clause-whole : goal.returns-clause-whole
returns-clause-whole g c = λ see started decided told d depth m turns rows running opens reached by_rows by_running by_opens over cost
    begun_weight weight pays at row entries tells.
    all_there see started decided told d depth m rows running opens reached by_rows by_running by_opens cost begun_weight weight pays at row
    entries tells turns over
