use Rattle.std.proofs.Common.{◌≡◌, ◌+◌, ◌≤◌, drop}
use Rattle.wf_enter.specs.Instances.{rows_in}
use Rattle.wf_resting.specs.Resting.{lacking_of}
use Rattle.wf_resting.proofs.recount.lacking.Given as goal

-- those that are counted, and those that are left to count, are all
abbrev pub invariant-loop-action : goal.invariant-loop-action
invariant-loop-action g l =
    let rows = rows_in g.A.Acts.row_tree l.rows.0 in record {
      at : l.place.at ≡ l.fn.place.at;
      so_far : l.count + lacking_of rows l.fn.place.at (drop l.action-index l.graph) ≡ lacking_of rows l.fn.place.at l.graph;
      in_range : l.count ≤ l.action-index;
    }
