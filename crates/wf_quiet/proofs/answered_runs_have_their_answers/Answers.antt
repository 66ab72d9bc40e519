use Rattle.wf_quiet.proofs.Answered.{made_are_answered}
use Rattle.wf_quiet.proofs.answered_runs_have_their_answers.Goals as goal

pub returns : goal.returns
returns g c = λ answered d m es s run. made_are_answered answered d m es s run
