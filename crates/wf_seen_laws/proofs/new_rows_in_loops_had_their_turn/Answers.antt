use Rattle.wf_seen_laws.proofs.RowLemmas.{new_turn}
use Rattle.wf_seen_laws.proofs.new_rows_in_loops_had_their_turn.Goals as goal

pub returns : goal.returns
returns b c = λ g m redo again f once keeps rule x r there new l outer at turn of. new_turn g m redo again f once keeps rule x r there new l outer at turn of
