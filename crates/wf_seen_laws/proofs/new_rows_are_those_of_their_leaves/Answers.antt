use Rattle.wf_seen_laws.proofs.LeafLemmas.{new_leaf}
use Rattle.wf_seen_laws.proofs.new_rows_are_those_of_their_leaves.Goals as goal

pub returns : goal.returns
returns b c = λ g m redo again f keeps rule x r there new is. new_leaf g m redo again f keeps rule x r there new is
