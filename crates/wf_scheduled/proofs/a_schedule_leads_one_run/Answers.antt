use Rattle.wf_scheduled.proofs.TurnLemmas.{one_run}
use Rattle.wf_scheduled.proofs.a_schedule_leads_one_run.Goals as goal

pub returns : goal.returns
returns g c = λ d depth m first reached schedule es es' run run'. one_run d m schedule depth first reached es es' run run'
