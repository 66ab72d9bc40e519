use Rattle.wf_asks.specs.Instances.{address_of}
use Rattle.wf_meter.specs.PlanSeen.{plan_tree}
use Rattle.wf_meter.specs.Tables.{event_tree}
use Rattle.wf_metered.proofs.MeteredLemmas.{place_is, sums_follow}
use Rattle.wf_metered.proofs.metered.Metered.step.Goals as goal

pub moved-self-inside-requires : goal.moved-self-inside-requires
moved-self-inside-requires g c =
    let s = c.self.inside in
    let t = s.state in
    let u = c.step.new.self in
    let a = g.A.Acts in
    (sums_follow a.row_tree a.begun_tree a.decision_tree a.verdict_tree (a.graph t.0) (a.depth t.0) (a.source t.0)
    (plan_tree s.plan.now) c.self.invariant.0.plan (a.cost_of_row t.0) (a.weight_of_begun t.0) (a.weight_of_decision t.0)
    t.1.0 t.1.1.0 t.1.1.1.0 c.is_reached.ensures c.is_listed.ensures.rows c.is_listed.ensures.running c.is_listed.ensures.opens
    s.sums c.self.invariant.1 u.1.0 u.1.1.0 u.1.1.1.0 c.is_listed-2.ensures.rows c.is_listed-2.ensures.running
    c.is_listed-2.ensures.opens c.is_listed-2.ensures.fewer_rows c.is_listed-2.ensures.fewer_running c.is_listed-2.ensures.fewer_opens
    (event_tree c.args.event.now) c.in_ok-step.ensures.ok
    c.of-moves.result (c.of-moves.ensures c.args.event.now.instance.action c.args.event.now.instance.at)
    (address_of c.args.event.now.instance) (place_is c.args.event.now) c.parts_at-before.result c.parts_at-after.result
    (record {
      rows_are = c.parts_at-before.ensures.rows;
      running_are = c.parts_at-before.ensures.running;
      turns_are = c.parts_at-before.ensures.turns;
      decisions_are = c.parts_at-before.ensures.decisions;
    })
    (record {
      rows_are = rw c.in_ok-step.ensures.same at c.parts_at-after.ensures.rows;
      running_are = rw c.in_ok-step.ensures.same at c.parts_at-after.ensures.running;
      turns_are = rw c.in_ok-step.ensures.same at c.parts_at-after.ensures.turns;
      decisions_are = rw c.in_ok-step.ensures.same at c.parts_at-after.ensures.decisions;
    })).0

pub invariant_of-self-2 : goal.invariant_of-self-2
invariant_of-self-2 g c =
    let s = c.self.inside in
    let t = s.state in
    let u = c.step.new.self in
    let a = g.A.Acts in
    rw (c.in_ok-step.ensures.same, c.moved-self-inside.ensures) (
      c.self.invariant.0,
      (sums_follow a.row_tree a.begun_tree a.decision_tree a.verdict_tree (a.graph t.0) (a.depth t.0) (a.source t.0)
          (plan_tree s.plan.now) c.self.invariant.0.plan (a.cost_of_row t.0) (a.weight_of_begun t.0) (a.weight_of_decision t.0)
          t.1.0 t.1.1.0 t.1.1.1.0 c.is_reached.ensures c.is_listed.ensures.rows c.is_listed.ensures.running c.is_listed.ensures.opens
          s.sums c.self.invariant.1 u.1.0 u.1.1.0 u.1.1.1.0 c.is_listed-2.ensures.rows c.is_listed-2.ensures.running
          c.is_listed-2.ensures.opens c.is_listed-2.ensures.fewer_rows c.is_listed-2.ensures.fewer_running c.is_listed-2.ensures.fewer_opens
          (event_tree c.args.event.now) c.in_ok-step.ensures.ok
          c.of-moves.result (c.of-moves.ensures c.args.event.now.instance.action c.args.event.now.instance.at)
          (address_of c.args.event.now.instance) (place_is c.args.event.now) c.parts_at-before.result c.parts_at-after.result
          (record {
            rows_are = c.parts_at-before.ensures.rows;
            running_are = c.parts_at-before.ensures.running;
            turns_are = c.parts_at-before.ensures.turns;
            decisions_are = c.parts_at-before.ensures.decisions;
          })
          (record {
            rows_are = rw c.in_ok-step.ensures.same at c.parts_at-after.ensures.rows;
            running_are = rw c.in_ok-step.ensures.same at c.parts_at-after.ensures.running;
            turns_are = rw c.in_ok-step.ensures.same at c.parts_at-after.ensures.turns;
            decisions_are = rw c.in_ok-step.ensures.same at c.parts_at-after.ensures.decisions;
          })).1,
    )
