use Rattle.wf_kept.proofs.Informed.{reached_facts}
use Rattle.wf_kept.proofs.reached_states_have_the_facts.Goals as goal

pub returns : goal.returns
returns g c = λ d depth m s reached. reached_facts d depth m s reached
