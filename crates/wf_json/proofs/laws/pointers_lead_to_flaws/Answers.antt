use Rattle.wf_json.proofs.FollowLemmas.{listed_iff_leading}
use Rattle.wf_json.proofs.laws.pointers_lead_to_flaws.Goals as goal

pub returns : goal.returns
returns c = listed_iff_leading
