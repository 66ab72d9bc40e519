use Rattle.wf_kept.proofs.Counts.{counts_are_kept}
use Rattle.wf_kept.proofs.counts_are_kept.Goals as goal

pub returns : goal.returns
returns g c = λ d depth m s reached. counts_are_kept d depth m s reached
