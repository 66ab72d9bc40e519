use Rattle.std.proofs.Common.{ap, ◌∙◌}
use Rattle.wf_tables.specs.Tables.{event_tree, events_in}
use Rattle.wf_tables.specs.declared.entries.EventAt.{EventAt}
use Rattle.wf_events.proofs.TableLemmas.{put_entry}
use Rattle.wf_events.proofs.ready.put_event.Goals as goal

pub returns-clause-events : goal.returns-clause-events
returns-clause-events c x =
    ap (λ xs. events_in xs x) c.put.ensures.items
    ∙ put_entry (λ (e : EventAt). e.instance) event_tree c.args.event c.args.ready.now.0 x
