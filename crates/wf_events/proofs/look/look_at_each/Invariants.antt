use Rattle.std.proofs.Common.{◌≡◌, ◌≤◌, length}
use Rattle.std.specs.Vec.Iter.{into_iter_items, into_iter_len}
use Rattle.wf_layers.specs.Address.{Address}
use Rattle.wf_tables.specs.Instances.{rows_in}
use Rattle.wf_tables.specs.PlanSeen.{plan_tree}
use Rattle.wf_tables.specs.Tables.{count_in, events_in}
use Rattle.wf_events.specs.Looked.{idle_at, look_each}
use Rattle.wf_events.proofs.look.look_at_each.Given as goal

-- those that are left to look at, over what is looked at, are all
abbrev pub invariant-loop-place : goal.invariant-loop-place
invariant-loop-place g l =
    let a = g.A.Acts in
    let look = idle_at (a.source l.acts) (rows_in a.row_tree l.rows.0) (count_in l.waits.0) (plan_tree l.plan) in record {
      count : into_iter_len l.place-iterator ≡ length (into_iter_items l.place-iterator);
      room : length (into_iter_items l.place-iterator) ≤ l.ready.1;
      events : (x : Address)
          → look_each look (into_iter_items l.place-iterator) (events_in l.ready.0) x
          ≡ look_each look l.fn.places.items (events_in l.fn.ready.0) x;
    }
