use Rattle.wf_shown.proofs.RowLemmas.{first_of}
use Rattle.wf_shown.proofs.rows.shown.Goals as goal

pub returns : goal.returns
returns c = rw c.min-most.ensures (first_of c.args.rows.now)
