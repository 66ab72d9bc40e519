use Rattle.wf_fn_sets.proofs.MemberLaws.{union-value, common-value}
use Rattle.wf_fn_sets.proofs.laws.the_last_object_stands.Goals as goal

pub returns : goal.returns
returns c = record { union = union-value; intersection = common-value }
