use Rattle.wf_answers.proofs.DoubleLemmas.{told-least, told-none}
use Rattle.wf_answers.proofs.laws.the_least_double_is_told.Goals as goal

pub returns : goal.returns
returns c = record { told = told-least; none = told-none }
