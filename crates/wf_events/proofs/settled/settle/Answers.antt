use Rattle.std.specs.Prelude.{None, cond}
use Rattle.wf_layers.specs.Address.{is_own}
use Rattle.wf_tables.specs.Instances.{rows_in}
use Rattle.wf_tables.specs.Known.{opens_in}
use Rattle.wf_tables.specs.PlanSeen.{list_at, plan_tree}
use Rattle.wf_events.specs.Looked.{idle_at, open_at}
use Rattle.wf_tables.specs.Tables.{count_in, events_in, left_in}
use Rattle.wf_events.proofs.SettledLemmas.{settled}
use Rattle.wf_events.proofs.settled.settle.Goals as goal

pub returns : goal.returns
returns g c x =
    let a = g.A.Acts in
    settled (idle_at (a.source c.args.acts.now) (rows_in a.row_tree c.args.rows.now.0) (count_in c.args.waits.now.0)
    (plan_tree c.args.plan.now))
    (open_at (a.source c.args.acts.now) (opens_in a.decision_tree a.verdict_tree c.args.opens.now.0) (count_in c.args.lacks.now.0)
    (left_in c.args.opens.now.0) (plan_tree c.args.plan.now))
    c.args.round c.args.place.now.at (list_at (plan_tree c.args.plan.now).followers c.args.place.now.action) c.args.followers.items
    (λ y. cond (is_own c.args.place.now.action c.args.place.now.at y) None (events_in c.args.ready.now.0 y))
    (events_in c.take_event.new.ready.0) (events_in c.look_out.new.ready.0) (events_in c.look_at_each.new.ready.0)
    c.requires.followers c.take_event.ensures.events c.look_out.ensures.events c.look_at_each.ensures x
