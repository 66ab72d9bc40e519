use Rattle.std.proofs.Common.{◌+◌, arith}
use Rattle.wf_tables.specs.PlanSeen.{plan_tree}
use Rattle.wf_meter.proofs.TotalLemmas.{turns_on}
use Rattle.wf_meter.proofs.totals.turns_total.Goals as goal

pub loop-place-preserved : goal.loop-place-preserved
loop-place-preserved g c =
    let a = g.A.Acts in
    let so_far = c.loop-place.invariant in
    let part = c.turns_of-total.ensures in record {
      all =
          turns_on a.decision_tree a.verdict_tree (plan_tree c.args.plan.now) (a.source c.args.acts.now).items
          c.loop-place.total c.args.opens.now.0 c.loop-place.place (c.loop-place.place + 1) c.at-open.result.now c.at-open.ensures.item (omega arith)
          c.turns_of-total.result part so_far.all;
      bound = omega (arith, part, so_far.bound);
    }
