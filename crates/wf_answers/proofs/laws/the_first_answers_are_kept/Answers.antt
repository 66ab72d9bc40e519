use Rattle.wf_answers.proofs.KeptLemmas.{kept-in_order, kept-found}
use Rattle.wf_answers.proofs.laws.the_first_answers_are_kept.Goals as goal

pub returns : goal.returns
returns c = record { in_order = kept-in_order; found = kept-found }
