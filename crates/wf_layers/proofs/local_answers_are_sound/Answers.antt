use Rattle.wf_layers.proofs.Seen.{answers_sound}
use Rattle.wf_layers.proofs.local_answers_are_sound.Goals as goal

pub returns : goal.returns
returns g c = λ d m once closed answers. answers_sound d m once closed answers
