use Rattle.wf_meter.specs.PlanSeen.{plan_tree}
use Rattle.wf_metered.proofs.metered.Metered.again.Goals as goal

pub invariant_of-result : goal.invariant_of-result
invariant_of-result g c =
    rw (c.again.ensures.acts, c.again.ensures.lists) (
      c.requires.planned,
      (rw (← c.into_parts-rest.ensures) at c.requires.sums) (plan_tree c.args.plan.now) c.requires.planned.plan,
    )
