use Rattle.wf_quiet.proofs.Ready.{ready_stays, counts_stay, left_stays}
use Rattle.wf_quiet.proofs.what_is_ready_stays.Goals as goal

pub returns-clause-ready : goal.returns-clause-ready
returns-clause-ready g c = λ answered d m more knows s made. ready_stays answered d m more knows s made

pub returns-clause-counts : goal.returns-clause-counts
returns-clause-counts g c = λ answered d m more knows s made. counts_stay answered d m more knows s made

pub returns-clause-left : goal.returns-clause-left
returns-clause-left g c = λ answered d m more knows s made. left_stays answered d m more knows s made
