use Rattle.std.proofs.Common.{map, ap, ◌∙◌}
use Rattle.wf_record.specs.Seen.{row_tree}
use Rattle.wf_shown.proofs.RowLemmas.{from_on, rest_of}
use Rattle.wf_shown.proofs.rows.folded.Goals as goal

pub returns : goal.returns
returns c = rw c.min-most.ensures (ap (map row_tree) (from_on c.args.rows.now _) ∙ rest_of c.args.rows.now)
