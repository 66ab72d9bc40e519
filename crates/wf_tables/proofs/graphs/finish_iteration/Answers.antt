use Rattle.std.proofs.Common.{sym}
use Rattle.wf_tables.proofs.OpenLemmas.{fewer_left, fewer_open, none_left, none_open}
use Rattle.wf_tables.proofs.graphs.finish_iteration.Goals as goal

pub returns-in-Some-clause-left : goal.returns-in-Some-clause-left
returns-in-Some-clause-left g c x =
    rw (c.put.ensures.items, c.in-Some.ensures.rest, c.saturating_sub.ensures)
    (fewer_left c.args.container.now c.args.opens.now.0 c.in-Some.ensures.in_order c.in-Some.open (sym c.in-Some.ensures.item) x)

pub returns-in-Some-clause-opens : goal.returns-in-Some-clause-opens
returns-in-Some-clause-opens g c =
    rw (c.put.ensures.items, c.in-Some.ensures.rest, c.saturating_sub.ensures)
    (fewer_open c.args.container.now c.args.opens.now.0 c.in-Some.ensures.in_order c.in-Some.open (sym c.in-Some.ensures.item))

pub returns-in-None-clause-left : goal.returns-in-None-clause-left
returns-in-None-clause-left g c x =
    rw c.in-None.ensures.rest
    (none_left c.args.container.now c.args.opens.now.0 c.in-None.ensures.in_order (sym c.in-None.ensures.item) x)

pub returns-in-None-clause-opens : goal.returns-in-None-clause-opens
returns-in-None-clause-opens g c =
    rw c.in-None.ensures.rest
    (none_open c.args.container.now c.args.opens.now.0 c.in-None.ensures.in_order (sym c.in-None.ensures.item))
