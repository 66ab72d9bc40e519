use Rattle.std.proofs.Common.{sym, ◌∙◌}
use Rattle.std.specs.Vec.Iter.{into_iter_items}
use Rattle.wf_tables.specs.Instances.{rows_in}
use Rattle.wf_tables.specs.PlanSeen.{plan_tree}
use Rattle.wf_tables.specs.Tables.{count_in, events_in}
use Rattle.wf_events.specs.Looked.{idle_at}
use Rattle.wf_events.proofs.LookLemmas.{none_looked}
use Rattle.wf_events.proofs.look.look_at_each.Goals as goal

pub returns : goal.returns
returns g c x =
    let a = g.A.Acts in
    let look = idle_at (a.source c.args.acts.now) (rows_in a.row_tree c.args.rows.now.0) (count_in c.args.waits.now.0)
    (plan_tree c.args.plan.now) in
    none_looked look (into_iter_items c.loop-place.place-iterator) (sym c.loop-place.invariant.count ∙ c.in-None.ensures.steps.0) (events_in c.loop-place.ready.0) x
    ∙ c.loop-place.invariant.events x
