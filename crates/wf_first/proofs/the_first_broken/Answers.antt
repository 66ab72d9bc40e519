use Rattle.wf_first.proofs.FirstLemmas.{some_iff_first, none_iff_hold}
use Rattle.wf_first.proofs.the_first_broken.Goals as goal

pub returns-clause-some : goal.returns-clause-some
returns-clause-some g c = λ offences rules rule pointer. some_iff_first offences rules rule pointer

pub returns-clause-none : goal.returns-clause-none
returns-clause-none g c = λ offences rules. none_iff_hold offences rules
