use Rattle.wf_quiet.proofs.Stored.{told_by_rows}
use Rattle.wf_quiet.proofs.stores_are_told_by_their_rows.Goals as goal

pub returns : goal.returns
returns g c = λ d depth m writes is order es s run v last. told_by_rows d depth m writes es s is run order v last
