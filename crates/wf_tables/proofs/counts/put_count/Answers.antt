use Rattle.std.proofs.Common.{ap, ◌∙◌}
use Rattle.wf_tables.specs.Tables.{count_in}
use Rattle.wf_tables.proofs.CountLemmas.{count_put}
use Rattle.wf_tables.proofs.counts.put_count.Goals as goal

pub returns-clause-counts : goal.returns-clause-counts
returns-clause-counts c x =
    ap (λ xs. count_in xs x) c.put.ensures.items ∙ count_put c.args.item c.args.counts.now.0 c.requires.some x
