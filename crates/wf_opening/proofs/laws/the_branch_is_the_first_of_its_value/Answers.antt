use Rattle.wf_opening.proofs.BranchLemmas.{branch}
use Rattle.wf_opening.proofs.laws.the_branch_is_the_first_of_its_value.Goals as goal

pub returns : goal.returns
returns c = branch c.order_is_total.ensures.exact
