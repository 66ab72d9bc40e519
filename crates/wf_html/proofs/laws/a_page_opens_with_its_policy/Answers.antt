use Rattle.wf_html.proofs.StillLemmas.{head_is}
use Rattle.wf_html.proofs.laws.a_page_opens_with_its_policy.Goals as goal

pub returns : goal.returns
returns c = head_is
