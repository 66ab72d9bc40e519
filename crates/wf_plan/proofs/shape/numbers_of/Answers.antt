use Rattle.std.proofs.Common.{ℕ, List, [], ◌∷◌, ◌++◌, ◌+◌, map, drop, append_assoc, ap, sym, ◌∙◌, arith}
use Rattle.wf_def.specs.ActionSeen.{action_tree}
use Rattle.wf_def.specs.ActionTree.{action_trees}
use Rattle.wf_def.specs.Layered.{layered}
use Rattle.wf_def.specs.declared.graph.Action.{Action, out-Action}
use Rattle.wf_def.proofs.SizeLemmas.{drop_at_place}
use Rattle.wf_plan.specs.Plan.{own_numbers}
use Rattle.wf_plan.proofs.ShapeLemmas.{own_next}
use Rattle.wf_plan.proofs.shape.numbers_of.Goals as goal

pub loop-action-preserved : goal.loop-action-preserved
loop-action-preserved c =
    let xs : List Action = c.as_slice-action-items.result.now in
    let i = c.loop-action.action-index in
    let item : Action = c.action-item.result in
    let so_far : List ℕ = c.loop-action.numbers.items in
    let left = action_trees (map action_tree (drop (i + 1) xs)) in
    let here = drop_at_place xs i item (omega arith) c.action-item.is in
    ap (λ (ns : List ℕ). ns ++ own_numbers (layered left)) c.in_ok-push.ensures.items
    ∙ append_assoc so_far ((out-Action item).number ∷ []) (own_numbers (layered left))
    ∙ sym (ap (λ (ns : List ℕ). so_far ++ ns) (own_next item left))
    ∙ sym (ap (λ (ys : List Action). so_far ++ own_numbers (layered (action_trees (map action_tree ys)))) here)
    ∙ c.loop-action.invariant
