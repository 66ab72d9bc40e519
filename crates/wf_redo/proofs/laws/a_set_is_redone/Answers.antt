use Rattle.wf_redo.proofs.Sets.{as_resubmitted, closed_again_is, redone_is}
use Rattle.wf_redo.proofs.laws.a_set_is_redone.Goals as goal

pub returns-clause-redone : goal.returns-clause-redone
returns-clause-redone c = λ n g from below closed present y here. redone_is n g from below closed present y here

pub returns-clause-closed_again : goal.returns-clause-closed_again
returns-clause-closed_again c = λ n g from below closed present y here. closed_again_is n g from below closed present y here

pub returns-clause-as_resubmitted : goal.returns-clause-as_resubmitted
returns-clause-as_resubmitted c = λ n g depth from below once closed falls present out y here.
    as_resubmitted n g from below closed present depth once falls out y here
