use Rattle.wf_record_form.proofs.FittingLemmas.{fitting_is_of_form}
use Rattle.wf_record_form.proofs.laws.a_fitting_record_is_of_the_form.Goals as goal

pub returns : goal.returns
returns c = fitting_is_of_form
