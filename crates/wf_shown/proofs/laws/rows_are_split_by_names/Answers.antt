use Rattle.wf_shown.proofs.OnceLemmas.{split_by_names}
use Rattle.wf_shown.proofs.laws.rows_are_split_by_names.Goals as goal

pub returns : goal.returns
returns c = split_by_names
