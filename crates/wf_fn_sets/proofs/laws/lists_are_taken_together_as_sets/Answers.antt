use Rattle.wf_fn_sets.proofs.SetLaws.{union-among, common-among}
use Rattle.wf_fn_sets.proofs.laws.lists_are_taken_together_as_sets.Goals as goal

pub returns : goal.returns
returns c = record { any = union-among; all = common-among }
