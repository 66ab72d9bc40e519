use Rattle.wf_seen_laws.proofs.RowLemmas.{had_turn}
use Rattle.wf_seen_laws.proofs.rows_in_loops_had_their_turn.Goals as goal

pub returns : goal.returns
returns s c = λ g m f once own rule x r there l outer at turn of. had_turn g m f once own rule x r there l outer at turn of
