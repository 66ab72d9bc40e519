use Rattle.wf_fn_uri.proofs.LawLemmas.{carried}
use Rattle.wf_fn_uri.proofs.laws.data_urls_carry_their_encoding.Goals as goal

pub returns : goal.returns
returns c = carried
