use Rattle.wf_told.proofs.RunLemmas.{too_large}
use Rattle.wf_told.proofs.laws.runs_are_too_large_where_they_cost_more.Goals as goal

pub returns : goal.returns
returns c = too_large
