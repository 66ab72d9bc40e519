use Rattle.std.proofs.Common.{◌∙◌}
use Rattle.wf_events.specs.PlanSeen.{plan_tree}
use Rattle.wf_steps.proofs.ResumedLemmas.{resumed_kept}
use Rattle.wf_steps.proofs.state.State.resumed.Goals as goal

pub invariant_of-result : goal.invariant_of-result
invariant_of-result g c =
    let a = g.A.Acts in
    rw c.new.ensures (
      c.requires.planned,
      resumed_kept a.row_tree a.begun_tree a.decision_tree a.verdict_tree (a.graph c.args.acts.now) (a.source c.args.acts.now)
          (a.depth c.args.acts.now) c.args.rows.0 c.args.opens.0 (plan_tree c.args.plan.now) c.requires.planned
          c.len-count.ensures.in_order c.requires.resumed (a.writes c.args.acts.now) c.args.store.0 c.requires.last
          c.as_slice-actions.result.now (c.as_slice-actions.ensures.value ∙ c.in_ok-numbers.ensures) c.in_ok-waits.waits.0
          c.in_ok-lacks.lacks.0 c.in_ok-ready.ready.0 c.in_ok-waits.ensures c.in_ok-lacks.ensures c.in_ok-ready.ensures,
    )
