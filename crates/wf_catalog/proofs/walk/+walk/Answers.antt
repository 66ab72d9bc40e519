use Rattle.std.proofs.Common.{◌≡◌, ◌++◌, map, ◌+◌, ℕ, List, drop, get_or, ap, sym, ◌∙◌, append_assoc, arith}
use Rattle.wf_def.specs.ActionTree.{ActionTree, action_trees, CaseTree, case_trees}
use Rattle.wf_def.specs.ActionSeen.{action_tree, case_tree, cases_seen, graph_tree}
use Rattle.wf_def.specs.Names.{action_size, cases_size, graph_size}
use Rattle.wf_def.specs.declared.graph.Action.{Action}
use Rattle.wf_def.specs.declared.graph.Case.{Case, out-Case}
use Rattle.wf_def.proofs.SizeLemmas.{action-falls, case-falls, case_tree-is, drop_at_place, graph_tree-is}
use Rattle.wf_catalog.specs.Walk.{Walked, cases_walk, graph_walk}
use Rattle.wf_catalog.specs.WalkSeen.{walked}
use Rattle.wf_catalog.proofs.walk.+walk.Goals as goal

pub in_graph-in_action-requires : goal.in_graph-in_action-requires
in_graph-in_action-requires t c =
    let xs : List Action = c.as_slice-action-items.result.now in
    let item : Action = c.action-item.result in
    let whole : graph_size (action_trees (map action_tree xs)) ≡ graph_size (graph_tree c.args.graph.now) =
    ap (λ ts. graph_size (action_trees ts)) c.as_slice-action-items.ensures ∙ sym (ap graph_size (graph_tree-is c.args.graph.now)) in
    let same : action_size (action_tree item) ≡ action_size (action_tree (get_or xs c.loop-action.action-index item)) =
    ap (λ (a : Action). action_size (action_tree a)) c.action-item.is in
    let here = action-falls xs c.loop-action.action-index item (omega arith) in
    omega (arith, c.decreases, whole, same, here)

pub in_cases-in_graph-requires : goal.in_cases-in_graph-requires
in_cases-in_graph-requires t c =
    let xs : List Case = c.as_slice-case-items.result.now in
    let item : Case = c.case-item.result in
    let whole : cases_size (case_trees (map case_tree xs)) ≡ cases_size (case_trees (cases_seen c.args.cases.now)) =
    ap (λ ts. cases_size (case_trees ts)) c.as_slice-case-items.ensures in
    let same : graph_size (graph_tree (out-Case item).graph) ≡ graph_size (case_tree (get_or xs c.loop-case.case-index item)).1.1 =
    sym (ap (λ (a : CaseTree). graph_size a.1.1) (case_tree-is item)) ∙ ap (λ (a : Case). graph_size (case_tree a).1.1) c.case-item.is in
    let here = case-falls xs c.loop-case.case-index item (omega arith) in
    omega (arith, c.decreases, whole, same, here)

pub in_cases-loop-case-preserved : goal.in_cases-loop-case-preserved
in_cases-loop-case-preserved t c =
    let cs : List Case = c.as_slice-case-items.result.now in
    let i = c.loop-case.case-index in
    let item : Case = c.case-item.result in
    let round : List ℕ = c.args.round.now in
    let done : List Walked = map walked c.loop-case.all.items in
    let rest : List Walked = cases_walk round (case_trees (map case_tree (drop (i + 1) cs))) in
    let here = drop_at_place cs i item (omega arith) c.case-item.is in
    ap (λ (ns : List Walked). ns ++ rest) c.in_ok-all.ensures
    ∙ append_assoc done (graph_walk round (graph_tree (out-Case item).graph)) rest
    ∙ sym (ap (λ (a : CaseTree). done ++ (graph_walk round a.1.1 ++ rest)) (case_tree-is item))
    ∙ ap (λ (xs : List Case). done ++ cases_walk round (case_trees (map case_tree xs))) (sym here)
    ∙ c.loop-case.invariant
