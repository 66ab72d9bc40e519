use Rattle.wf_drive.proofs.TraceLemmas.{trace_more}
use Rattle.wf_drive.proofs.laws.traces_grow.Goals as goal

pub returns : goal.returns
returns c = λ told es e. trace_more told es e
