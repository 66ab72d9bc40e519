use Rattle.wf_record_form.proofs.ReadBackLemmas.{read_back}
use Rattle.wf_record_form.proofs.laws.a_record_is_read_back.Goals as goal

pub returns : goal.returns
returns c = read_back
