use Rattle.std.proofs.Common.{◌≡◌, ◌≤◌, ◌+◌, ◌-◌, ◌*◌, ◌^◌, drop}
use Rattle.wf_tables.specs.Instances.{rows_in}
use Rattle.wf_meter.specs.Parts.{block_worth, row_part}
use Rattle.wf_meter.proofs.parts.block_part.Given as goal

-- those so far, and those that are left
abbrev pub invariant-loop-action : goal.invariant-loop-action
invariant-loop-action g l =
    let a = g.A.Acts in
    let these = l.fn.place.at in
    let price = row_part (a.cost_of_row l.acts) in
    let rows = rows_in a.row_tree l.rows.0 in record {
      same : l.place.at ≡ these;
      all : l.total + block_worth price rows these (drop l.action-index l.block) ≡ block_worth price rows these l.block;
      bound : l.total ≤ (2 ^ 64 - 1) * l.action-index;
    }
