use Rattle.std.proofs.Common.{◌≡◌, ◌+◌, ◌≤◌, drop, map}
use Rattle.wf_layers.specs.Waiting.{waiting}
use Rattle.wf_enter.specs.Instances.{rows_in}
use Rattle.wf_enter.specs.PlanSeen.{wait_need}
use Rattle.wf_resting.proofs.recount.waiting.Given as goal

-- those that are counted, and those that are left to count, are all
abbrev pub invariant-loop-wait : goal.invariant-loop-wait
invariant-loop-wait g l =
    let rows = rows_in g.A.Acts.row_tree l.rows.0 in record {
      at : l.place.at ≡ l.fn.place.at;
      so_far : l.count + waiting (map wait_need (drop l.wait-index l.after)) l.fn.place.at rows
          ≡ waiting (map wait_need l.after) l.fn.place.at rows;
      in_range : l.count ≤ l.wait-index;
    }
