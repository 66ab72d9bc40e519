use Rattle.std.proofs.Common.{◌≡◌, [], drop}
use Rattle.wf_layers.specs.Address.{Address}
use Rattle.wf_events.specs.Instances.{rows_in}
use Rattle.wf_events.specs.Looked.{idle_at, instances_at, look_each}
use Rattle.wf_events.specs.PlanSeen.{plan_tree}
use Rattle.wf_events.specs.Tables.{count_in, events_in}
use Rattle.wf_steps.proofs.fresh.first_ready.Given as goal

-- those that are left to look at, over what is looked at, are all
abbrev pub invariant-loop-action : goal.invariant-loop-action
invariant-loop-action g l =
    let a = g.A.Acts in
    let look = idle_at (a.source l.acts) (rows_in a.row_tree l.rows.0) (count_in l.waits.0) (plan_tree l.plan) in
    (x : Address) → look_each look (instances_at [] (drop l.action-index l.top)) (events_in l.ready.0) x
    ≡ look_each look (instances_at [] l.top) (events_in []) x
