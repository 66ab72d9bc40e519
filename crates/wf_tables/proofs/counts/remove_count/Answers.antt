use Rattle.std.proofs.Common.{ap, ◌∙◌}
use Rattle.wf_tables.specs.Tables.{count_in}
use Rattle.wf_tables.proofs.CountLemmas.{count_removed}
use Rattle.wf_tables.proofs.counts.remove_count.Goals as goal

pub returns-clause-counts : goal.returns-clause-counts
returns-clause-counts c x =
    ap (λ xs. count_in xs x) c.take-removed.ensures.rest
    ∙ count_removed c.args.item.instance c.args.item.count c.args.counts.now.0 c.take-removed.ensures.in_order c.requires x
