use Rattle.wf_record_form.proofs.ReadBackLemmas.{read_untold}
use Rattle.wf_record_form.proofs.laws.form_one_is_read_as_untold.Goals as goal

pub returns : goal.returns
returns c = read_untold
