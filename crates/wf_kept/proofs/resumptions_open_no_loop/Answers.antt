use Rattle.wf_kept.proofs.Resumed.{resumption_opens}
use Rattle.wf_kept.proofs.resumptions_open_no_loop.Goals as goal

pub returns : goal.returns
returns g c = λ d depth m s is. resumption_opens d depth m s is
