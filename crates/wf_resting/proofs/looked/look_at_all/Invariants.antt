use Rattle.std.proofs.Common.{◌≡◌, ◌≤◌, drop, length}
use Rattle.wf_layers.specs.Address.{Address}
use Rattle.wf_enter.specs.Instances.{rows_in}
use Rattle.wf_enter.specs.Known.{opens_in}
use Rattle.wf_enter.specs.PlanSeen.{plan_tree}
use Rattle.wf_enter.specs.Tables.{count_in, events_in, left_in}
use Rattle.wf_enter.specs.Looked.{instances_at, look_each}
use Rattle.wf_resting.specs.Resting.{resting_at}
use Rattle.wf_resting.proofs.looked.look_at_all.Given as goal

-- those that are left to look at, over what is looked at, are all
abbrev pub invariant-loop-action : goal.invariant-loop-action
invariant-loop-action g l =
    let a = g.A.Acts in
    let look = resting_at (a.source l.acts) (plan_tree l.plan) (rows_in a.row_tree l.rows.0)
    (opens_in a.decision_tree a.verdict_tree l.opens.0) (count_in l.waits.0) (count_in l.lacks.0) (left_in l.opens.0) in record {
      room : length (drop l.action-index l.actions) ≤ l.ready.1;
      events : (x : Address)
          → look_each look (instances_at l.at (drop l.action-index l.actions)) (events_in l.ready.0) x
          ≡ look_each look (instances_at l.at l.actions) (events_in l.fn.ready.0) x;
    }
