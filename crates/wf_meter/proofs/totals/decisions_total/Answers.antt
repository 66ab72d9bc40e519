use Rattle.std.proofs.Common.{◌+◌, arith}
use Rattle.wf_meter.proofs.TotalLemmas.{decisions_on}
use Rattle.wf_meter.proofs.totals.decisions_total.Goals as goal

pub loop-place-preserved : goal.loop-place-preserved
loop-place-preserved g c =
    let a = g.A.Acts in
    let so_far = c.loop-place.invariant in
    let part = c.decision_weight.ensures in record {
      all =
          decisions_on a.decision_tree a.verdict_tree (a.weight_of_decision c.args.acts.now)
          c.loop-place.total c.args.opens.now.0 c.loop-place.place (c.loop-place.place + 1) c.at.result.now c.at.ensures.item (omega arith)
          c.decision_weight.result part so_far.all;
      bound = omega (arith, part, so_far.bound);
    }
