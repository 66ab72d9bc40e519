use Rattle.wf_seen_laws.proofs.StandLemmas.{new_stands}
use Rattle.wf_seen_laws.proofs.new_rows_stand_at_instances.Goals as goal

pub returns : goal.returns
returns b c = λ g m redo again f once keeps rule x r there new held. new_stands g m redo again f once keeps rule x r there new held
