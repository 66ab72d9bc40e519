use Rattle.wf_scheduled.proofs.TurnLemmas.{steps_of}
use Rattle.wf_scheduled.proofs.turns_are_steps.Goals as goal

pub returns : goal.returns
returns g c = λ d m schedule k s s' es turns. steps_of d m schedule k s s' es turns
