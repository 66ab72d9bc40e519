use Rattle.std.proofs.Common.{ap, ◌∙◌}
use Rattle.wf_events.specs.Tables.{count_in}
use Rattle.wf_events.proofs.CountLemmas.{count_removed}
use Rattle.wf_steps.proofs.fresh.add_count.Goals as goal

pub returns-then-item-eq0 : goal.returns-then-item-eq0
returns-then-item-eq0 c = λ x.
    ap (λ xs. count_in xs x) c.take-gone.ensures.rest
    ∙ count_removed c.args.item.instance c.args.item.count c.args.waits.now.0 c.take-gone.ensures.in_order c.if-item-eq0.true x
