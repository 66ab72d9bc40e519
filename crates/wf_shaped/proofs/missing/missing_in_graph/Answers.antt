use Rattle.std.proofs.Common.{List, ◌+◌, drop, map, ap, sym, ◌∙◌, arith}
use Rattle.wf_def.specs.ActionSeen.{action_tree}
use Rattle.wf_def.specs.ActionTree.{ActionTree, action_trees, actions_in}
use Rattle.wf_def.specs.declared.graph.Action.{Action}
use Rattle.wf_record.specs.Seen.{record_tree}
use Rattle.wf_shaped.specs.Least.{least_from}
use Rattle.wf_shaped.specs.Told.{indexes_inside, instances, instances_of, missing}
use Rattle.wf_shaped.proofs.MissingLemmas.{cut_at, least_in_two}
use Rattle.wf_shaped.proofs.missing.missing_in_graph.Goals as goal

pub loop-action-preserved : goal.loop-action-preserved
loop-action-preserved c =
    let rows = (record_tree c.args.log.now).rows in
    let ats = indexes_inside c.args.at.now c.args.turns in
    let xs : List Action = c.as_slice-action-items.result.now in
    let item : Action = c.action-item.result in
    let so_far = c.loop-action.least.address in
    let rest : List ActionTree = actions_in (action_trees (map action_tree (drop (c.loop-action.action-index + 1) xs))) in
    ap (λ o. least_from o (missing rows (instances_of ats rest))) c.in_ok-least.ensures
    ∙ (sym (least_in_two rows so_far (instances ats (action_tree item)) (instances_of ats rest))
    ∙ (ap (λ (zs : List Action). least_from so_far (missing rows (instances_of ats (actions_in (action_trees (map action_tree zs))))))
    (sym (cut_at xs c.loop-action.action-index item c.action-item.is (omega (arith, c.loop-action-test.true))))
    ∙ c.loop-action.invariant))
