use Rattle.wf_priced.proofs.WithinLemmas.{over_tells}
use Rattle.wf_priced.proofs.rows_of_states_that_are_over_tell_the_meaning.Goals as goal

pub returns : goal.returns
returns g c = λ see started decided told d depth m turns rows running opens reached by_rows over.
    over_tells see started decided told d depth m rows running opens reached by_rows turns over
