use Rattle.wf_closing.proofs.JudgedLemmas.{status_is}
use Rattle.wf_closing.proofs.laws.steps_give_the_status.Goals as goal

pub returns : goal.returns
returns c = status_is
