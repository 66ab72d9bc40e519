use Rattle.std.proofs.Common.{rules, ◌≡◌, ◌∷◌, ◌++◌, [], IfOk, ℕ, suc, ◌+◌, List, Option, Some, map, drop, get_or, add-one, ap, sym, ◌∙◌, subst, arith}
use Rattle.wf_def.specs.Definition as layers
use Rattle.wf_def.specs.ActionSeen.{action_tree, case_tree, cases_seen, graph_tree, kind_tree}
use Rattle.wf_def.specs.ActionTree.{action_trees, CaseTree, case_trees}
use Rattle.wf_def.specs.Layered.{layered, layered_cases, layered_kind}
use Rattle.wf_def.specs.Names.{action_size, cases_size, graph_size}
use Rattle.wf_def.specs.declared.graph.Action.{Action, out-Action}
use Rattle.wf_def.specs.declared.graph.Case.{Case, out-Case}
use Rattle.wf_def.specs.declared.graph.Kind as kinds
use Rattle.wf_def.proofs.SizeLemmas.{action-falls, case-falls, case_tree-is, drop_at_place, graph_tree-is}
use Rattle.wf_order.specs.OrderSeen.{places_seen}
use Rattle.wf_order.specs.Table.{PlaceTree}
use Rattle.wf_order.specs.Walk.{Entry, case_places, filled, graph_places, kind_places}
use Rattle.wf_order.proofs.WalkLemmas.{action_walked, both_walked, cases_seen-is, cases_walked, default_seen, default_walked, filled-append, if_seen, places-then}
use Rattle.wf_order.proofs.walk.+walk.Goals as goal

pub in_graph-in_action-requires : goal.in_graph-in_action-requires
in_graph-in_action-requires t c =
    let xs : List Action = c.as_slice-action-items.result.now in
    let item : Action = c.action-item.result in
    let whole : graph_size (action_trees (map action_tree xs)) ≡ graph_size (graph_tree c.args.graph.now) =
    ap (λ ts. graph_size (action_trees ts)) c.as_slice-action-items.ensures ∙ sym (ap graph_size (graph_tree-is c.args.graph.now)) in
    let same : action_size (action_tree item) ≡ action_size (action_tree (get_or xs c.loop-action.action-index item)) =
    ap (λ (a : Action). action_size (action_tree a)) c.action-item.is in
    let here = action-falls xs c.loop-action.action-index item (omega arith) in
    omega (arith, c.decreases, whole, same, here)

pub in_cases-in_graph-requires : goal.in_cases-in_graph-requires
in_cases-in_graph-requires t c =
    let xs : List Case = c.as_slice-case-items.result.now in
    let item : Case = c.case-item.result in
    let whole : cases_size (case_trees (map case_tree xs)) ≡ cases_size (case_trees (cases_seen c.args.cases.now)) =
    ap (λ ts. cases_size (case_trees ts)) c.as_slice-case-items.ensures in
    let same : graph_size (graph_tree (out-Case item).graph) ≡ graph_size (case_tree (get_or xs c.loop-case.case-index item)).1.1 =
    sym (ap (λ (a : CaseTree). graph_size a.1.1) (case_tree-is item)) ∙ ap (λ (a : Case). graph_size (case_tree a).1.1) c.case-item.is in
    let here = case-falls xs c.loop-case.case-index item (omega arith) in
    omega (arith, c.decreases, whole, same, here)

pub in_graph-loop-action-preserved : goal.in_graph-loop-action-preserved
in_graph-loop-action-preserved t c =
    let xs : List Action = c.as_slice-action-items.result.now in
    let i = c.loop-action.action-index in
    let item : Action = c.action-item.result in
    let round : List ℕ = c.args.containers.now in
    let own : Option (ℕ × ℕ) = c.args.own in
    let so_far : List (Option PlaceTree) = places_seen c.loop-action.all.items in
    let left = action_trees (map action_tree (drop (i + 1) xs)) in
    let here = drop_at_place xs i item (omega arith) c.action-item.is in
    ap (λ (ps : List (Option PlaceTree)). filled ps (graph_places round own (layered left))) c.in_ok-all.ensures
    ∙ sym (filled-append so_far (graph_places round own (layered (action_trees (action_tree item ∷ []))))
    (graph_places round own (layered left)))
    ∙ sym (ap (λ (es : List Entry). filled so_far es) (places-then round own (action_tree item) left))
    ∙ sym (ap (λ (ys : List Action). filled so_far (graph_places round own (layered (action_trees (map action_tree ys))))) here)
    ∙ c.loop-action.invariant

pub in_cases-loop-case-preserved : goal.in_cases-loop-case-preserved
in_cases-loop-case-preserved t c =
    let cs : List Case = c.as_slice-case-items.result.now in
    let i = c.loop-case.case-index in
    let j = c.loop-case.branch in
    let n = c.args.number in
    let item : Case = c.case-item.result in
    let up : List ℕ = c.args.up.now in
    let so_far : List (Option PlaceTree) = places_seen c.loop-case.all.items in
    let left = case_trees (map case_tree (drop (i + 1) cs)) in
    let one : List Entry = graph_places up (Some (n, j)) (layered (graph_tree (out-Case item).graph)) in
    let here = drop_at_place cs i item (omega arith) c.case-item.is in
    record {
      done_and_left =
          ap (λ (ps : List (Option PlaceTree)). filled ps (case_places up n (j + 1) left)) c.in_ok-all.ensures
          ∙ sym (filled-append so_far one (case_places up n (j + 1) left))
          ∙ ap (λ (k : ℕ). filled so_far (one ++ case_places up n k left)) (add-one j)
          ∙ sym (ap (λ (a : CaseTree). filled so_far (graph_places up (Some (n, j)) (layered a.1.1) ++ case_places up n (suc j) left))
          (case_tree-is item))
          ∙ sym (ap (λ (ys : List Case). filled so_far (case_places up n j (case_trees (map case_tree ys)))) here)
          ∙ c.loop-case.invariant.done_and_left;
      counted = omega (arith, c.loop-case.invariant.counted);
    }

pub in_action-returns : goal.in_action-returns
in_action-returns t c =
    let round : List ℕ = c.args.containers.now in
    let n = (out-Action c.args.action.now).number in
    let up : List ℕ = c.in_ok-up.up.items in
    let kept : c.in_ok-to_vec.field-0.items ≡ round ++ n ∷ [] = search rules in
    let inner : c.deref-2.result.now ≡ round ++ n ∷ [] = search rules in
    let whole = action_walked (places_seen c.args.found.items)
    (places_seen c.put.result.items) round c.in_ok-to_vec.field-0.items c.deref-2.result.now
    c.in_ok-numbers_of.field-0.items c.args.own c.args.action.now c.put.ensures kept inner c.in_ok-numbers_of.ensures in
    subst (λ (ps : List (Option PlaceTree)). IfOk c.in_kind.result (λ all. places_seen all.items ≡ ps)) whole c.in_kind.ensures

pub in_kind-returns-in_ok-all-in-If : goal.in_kind-returns-in_ok-all-in-If
in_kind-returns-in_ok-all-in-If t c =
    let found : List (Option PlaceTree) = places_seen c.args.found.items in
    let up : List ℕ = c.args.up.now in
    let n = c.args.number in
    let no' = layered (graph_tree c.in-If.no) in
    let seen : layered_kind (kind_tree c.args.kind.now) ≡
    layers.Choice (layers.branch (layered (graph_tree c.in-If.yes)) (layers.branch no' layers.no_branch)) =
    ap (λ k. layered_kind (kind_tree k)) c.in-If.is ∙ if_seen c.in-If.test c.in-If.yes c.in-If.no in
    let whole =
    ap (λ (ps : List (Option PlaceTree)). filled ps (graph_places up (Some (n, 2)) no')) c.in_ok-all-in-If.ensures
    ∙ both_walked found up n (layered (graph_tree c.in-If.yes)) no'
    ∙ sym (ap (λ (k : layers.Kind). filled found (kind_places up n k)) seen) in
    subst (λ (ps : List (Option PlaceTree)). IfOk c.in_graph-in-If-2.result (λ all. places_seen all.items ≡ ps)) whole
    c.in_graph-in-If-2.ensures

pub in_kind-returns-in-Some : goal.in_kind-returns-in-Some
in_kind-returns-in-Some t c =
    let found : List (Option PlaceTree) = places_seen c.args.found.items in
    let up : List ℕ = c.args.up.now in
    let n = c.args.number in
    let last = c.len.result + 1 in
    let default = layered (graph_tree c.in-Some.graph) in
    let counted = c.len.ensures.count in
    let seen : layered_kind (kind_tree c.args.kind.now) ≡
    layers.Choice (layered_cases (case_trees (cases_seen c.in-Switch.cases)) (layers.branch default layers.no_branch)) =
    ap (λ k. layered_kind (kind_tree k)) (c.in-Switch.is ∙ ap (λ d. kinds.Switch c.in-Switch.on c.in-Switch.cases d) c.in-Some.is)
    ∙ default_seen c.in-Switch.on c.in-Switch.cases c.in-Some.graph in
    let whole =
    ap (λ (ps : List (Option PlaceTree)). filled ps (graph_places up (Some (n, last)) default)) c.in_ok-all-in-Switch.ensures
    ∙ default_walked found up n last (cases_seen c.in-Switch.cases) default (omega (arith, counted))
    ∙ sym (ap (λ (k : layers.Kind). filled found (kind_places up n k)) seen) in
    subst (λ (ps : List (Option PlaceTree)). IfOk c.in_graph-in-Some.result (λ all. places_seen all.items ≡ ps)) whole
    c.in_graph-in-Some.ensures

pub in_kind-returns-in-None : goal.in_kind-returns-in-None
in_kind-returns-in-None t c =
    let found : List (Option PlaceTree) = places_seen c.args.found.items in
    let up : List ℕ = c.args.up.now in
    let seen : layered_kind (kind_tree c.args.kind.now) ≡
    layers.Choice (layered_cases (case_trees (cases_seen c.in-Switch.cases)) (layers.branch layers.done layers.no_branch)) =
    ap (λ k. layered_kind (kind_tree k)) (c.in-Switch.is ∙ ap (λ d. kinds.Switch c.in-Switch.on c.in-Switch.cases d) c.in-None.is)
    ∙ cases_seen-is c.in-Switch.on c.in-Switch.cases in
    c.in_ok-all-in-Switch.ensures
    ∙ cases_walked found up c.args.number (cases_seen c.in-Switch.cases)
    ∙ sym (ap (λ (k : layers.Kind). filled found (kind_places up c.args.number k)) seen)
