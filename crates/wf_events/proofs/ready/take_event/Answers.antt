use Rattle.std.proofs.Common.{ap, ◌∙◌}
use Rattle.wf_tables.specs.Tables.{event_tree, events_in}
use Rattle.wf_tables.specs.declared.entries.EventAt.{EventAt}
use Rattle.wf_tables.proofs.TableLemmas.{table_take}
use Rattle.wf_events.proofs.ready.take_event.Goals as goal

pub returns-clause-events : goal.returns-clause-events
returns-clause-events c x =
    ap (λ xs. events_in xs x) c.take-gone.ensures.rest
    ∙ ap (λ t. t x) (table_take (λ (e : EventAt). e.instance) event_tree c.args.place.now c.args.ready.now.0 c.take-gone.ensures.in_order)
