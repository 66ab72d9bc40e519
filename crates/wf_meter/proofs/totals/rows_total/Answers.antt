use Rattle.std.proofs.Common.{◌+◌, arith}
use Rattle.wf_meter.proofs.TotalLemmas.{rows_on}
use Rattle.wf_meter.proofs.totals.rows_total.Goals as goal

pub loop-place-preserved : goal.loop-place-preserved
loop-place-preserved g c =
    let a = g.A.Acts in
    let so_far = c.loop-place.invariant in
    let part = c.row_cost.ensures in record {
      all =
          rows_on a.row_tree (a.cost_of_row c.args.acts.now)
          c.loop-place.total c.args.rows.now.0 c.loop-place.place (c.loop-place.place + 1) c.at.result.now c.at.ensures.item (omega arith)
          c.row_cost.result part so_far.all;
      bound = omega (arith, part, so_far.bound);
    }
