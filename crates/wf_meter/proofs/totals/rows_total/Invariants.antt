use Rattle.std.proofs.Common.{◌≡◌, ◌≤◌, ◌+◌, ◌-◌, ◌*◌, ◌^◌, drop}
use Rattle.wf_meter.specs.Parts.{rows_sum}
use Rattle.wf_meter.proofs.totals.rows_total.Given as goal

-- those so far, and those that are left
abbrev pub invariant-loop-place : goal.invariant-loop-place
invariant-loop-place g l =
    let a = g.A.Acts in
    let sum = rows_sum a.row_tree (a.cost_of_row l.acts) in record {
      all : l.total + sum (drop l.place l.rows.0) ≡ sum l.rows.0;
      bound : l.total ≤ (2 ^ 64 - 1) * l.place;
    }
