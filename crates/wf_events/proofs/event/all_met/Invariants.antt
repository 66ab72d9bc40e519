use Rattle.std.proofs.Common.{◌≡◌, drop, map}
use Rattle.wf_layers.specs.Source.{all_met}
use Rattle.wf_tables.specs.Instances.{rows_in}
use Rattle.wf_tables.specs.PlanSeen.{wait_need}
use Rattle.wf_events.proofs.event.all_met.Given as goal

-- those that are left are met exactly where all are
abbrev pub invariant-loop-wait : goal.invariant-loop-wait
invariant-loop-wait g l =
    let a = g.A.Acts in
    let these = l.fn.place.at in
    let rows = rows_in a.row_tree l.rows.0 in record {
      same : l.place.at ≡ these;
      met : all_met (a.source l.acts) (map wait_need (drop l.wait-index l.after)) these rows
          ≡ all_met (a.source l.acts) (map wait_need l.after) these rows;
    }
