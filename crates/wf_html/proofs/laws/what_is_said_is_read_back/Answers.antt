use Rattle.wf_html.proofs.SafeLemmas.{read_back}
use Rattle.wf_html.proofs.laws.what_is_said_is_read_back.Goals as goal

pub returns : goal.returns
returns c = read_back
