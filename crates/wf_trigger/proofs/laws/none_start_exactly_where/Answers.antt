use Rattle.wf_trigger.proofs.StartLemmas.{none_start}
use Rattle.wf_trigger.proofs.laws.none_start_exactly_where.Goals as goal

pub returns : goal.returns
returns c = none_start
