use Rattle.wf_drive_laws.proofs.LeafLemmas.{leaves_run}
use Rattle.wf_drive_laws.proofs.listed_leaves_run.Goals as goal

pub returns : goal.returns
returns g c = λ see leaves s is order. leaves_run see leaves order s is
