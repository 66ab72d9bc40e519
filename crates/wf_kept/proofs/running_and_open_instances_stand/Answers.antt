use Rattle.wf_kept.proofs.Informed.{running_stands, open_stands}
use Rattle.wf_kept.proofs.running_and_open_instances_stand.Goals as goal

pub returns-clause-running : goal.returns-clause-running
returns-clause-running g c = λ d depth m s reached. running_stands d depth m s reached

pub returns-clause-opened : goal.returns-clause-opened
returns-clause-opened g c = λ d depth m s reached. open_stands d depth m s reached
