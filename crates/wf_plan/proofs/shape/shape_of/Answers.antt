use Rattle.std.proofs.Common.{ap, sym, ◌∙◌}
use Rattle.wf_def.specs.ActionSeen.{kind_tree}
use Rattle.wf_def.specs.Layered.{layered_kind}
use Rattle.wf_plan.specs.Plan.{choice, shape_of}
use Rattle.wf_plan.proofs.ShapeLemmas.{switch_shape}
use Rattle.wf_plan.proofs.shape.shape_of.Goals as goal

pub returns-in_ok-cases_then-in-Switch : goal.returns-in_ok-cases_then-in-Switch
returns-in_ok-cases_then-in-Switch c =
    ap choice c.in_ok-cases_then-in-Switch.ensures
    ∙ sym (ap (λ k. shape_of (layered_kind (kind_tree k))) c.in-Switch.is
    ∙ switch_shape c.in-Switch.on c.in-Switch.cases c.in-Switch.default)
