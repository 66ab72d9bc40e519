use Rattle.wf_meter.proofs.MoveLemmas.{rows_move}
use Rattle.wf_meter.proofs.sums_of_rows_move.Goals as goal

pub returns : goal.returns
returns g c = λ see started decided told d depth m p plan rows rows' running running' opens opens' reached e st ox oy w.
    rows_move see started decided told d depth m p plan rows rows' running running' opens opens' reached e st ox oy w
