use Rattle.wf_fn_list.proofs.MembershipLemmas.{among-is_contained}
use Rattle.wf_fn_list.proofs.TextLemmas.{stands-is_cut}
use Rattle.wf_fn_list.proofs.laws.what_contains_means.Goals as goal

pub returns : goal.returns
returns c = record { value = among-is_contained; part = stands-is_cut }
