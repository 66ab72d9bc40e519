use Rattle.wf_anew.proofs.StandLemmas.{stands_for_itself, untold_stands}
use Rattle.wf_anew.proofs.what_stands_for_a_record.Goals as goal

pub returns-clause-itself : goal.returns-clause-itself
returns-clause-itself c = stands_for_itself

pub returns-clause-untold : goal.returns-clause-untold
returns-clause-untold c = untold_stands
