use Rattle.std.proofs.Common.{refl}
use Rattle.wf_events.specs.PlanSeen.{plan_tree}
use Rattle.wf_steps.proofs.FreshLemmas.{first_kept}
use Rattle.wf_steps.proofs.state.State.fresh.Goals as goal

pub invariant_of-result : goal.invariant_of-result
invariant_of-result g c =
    let a = g.A.Acts in
    rw (c.taken-rows.ensures, c.taken-running.ensures, c.taken-opens.ensures, c.new-store.ensures) (
      c.requires.planned,
      first_kept (a.graph c.args.acts.now) (a.source c.args.acts.now) (a.depth c.args.acts.now) (a.writes c.args.acts.now)
          (plan_tree c.args.plan.now) c.requires.instance c.requires.planned c.in_ok-waits.waits.0 c.taken-lacks.result.0
          c.in_ok-ready.ready.0 c.in_ok-waits.ensures (rw c.taken-rows.ensures at c.in_ok-ready.ensures),
    )

pub returns-clause-first : goal.returns-clause-first
returns-clause-first g c = rw (c.taken-rows.ensures, c.taken-running.ensures, c.taken-opens.ensures) refl
