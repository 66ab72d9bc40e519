use Rattle.std.proofs.Common.{ℕ, ◌≡◌, ◌++◌, [], ◌∷◌, IfOk, codes, map, ◌+◌, ◌≤◌, List, drop, get_or, ap, sym, subst, ◌∙◌, arith}
use Rattle.wf_def.specs.ActionTree.{ActionTree, actions_in, action_trees, CaseTree, case_trees, KindTree}
use Rattle.wf_def.specs.ActionSeen.{action_tree, case_tree, cases_seen, graph_tree, kind_tree}
use Rattle.wf_def.specs.Names.{action_size, cases_size, graph_size}
use Rattle.wf_def.specs.declared.graph.Action.{Action, out-Action}
use Rattle.wf_def.specs.declared.graph.Case.{Case, out-Case}
use Rattle.wf_def.specs.declared.graph.Graph.{Graph}
use Rattle.wf_def.specs.declared.graph.Kind as kinds
use Rattle.wf_def.proofs.SizeLemmas.{action-falls, case-falls, case_tree-is, drop_at_place, graph_tree-is}
use Rattle.wf_html.proofs.PieceLemmas.{written_append}
use Rattle.wf_html.specs.Html.{Piece, opened, closed, written}
use Rattle.wf_html.specs.declared.tag.Tag.{Tag}
use Rattle.wf_record.specs.Seen.{row_tree}
use Rattle.wf_val.specs.Seen.{tree}
use Rattle.wf_def.proofs.ListLemmas.{actions_in_trees}
use Rattle.wf_drawn.proofs.DrawnLemmas.{drawn_action, level_more, step, step_inside, two_inside}
use Rattle.wf_drawn.proofs.KindLemmas.{action_tree-is, foreach_seen, if_seen, scope_seen, switch_else_seen, switch_seen}
use Rattle.wf_drawn.specs.Levels.{depth, level_at}
use Rattle.wf_drawn.specs.Drawn.{case_word, cases_pieces, each_level, graph_pieces, held, in_levels, kind_pieces, level_piece, level_pieces}
use Rattle.wf_drawn.specs.Views.{ViewTree, view_tree}
use Rattle.wf_drawn.proofs.graph.+draw.Goals as goal

pub in_level-in_action-requires : goal.in_level-in_action-requires
in_level-in_action-requires t c =
    let xs : List Action = c.as_slice-action-items.result.now in
    let item : Action = c.action-item.result in
    let whole : graph_size (action_trees (map action_tree xs)) ≡ graph_size (graph_tree c.args.graph.now) =
    ap (λ ts. graph_size (action_trees ts)) c.as_slice-action-items.ensures ∙ sym (ap graph_size (graph_tree-is c.args.graph.now)) in
    let same : action_size (action_tree item) ≡ action_size (action_tree (get_or xs c.loop-action.action-index item)) =
    ap (λ (a : Action). action_size (action_tree a)) c.action-item.is in
    let here = action-falls xs c.loop-action.action-index item (omega arith) in
    omega (arith, c.decreases, whole, same, here)

pub in_level-loop-action-preserved : goal.in_level-loop-action-preserved
in_level-loop-action-preserved t c =
    let xs : List Action = c.as_slice-action-items.result.now in
    let i = c.loop-action.action-index in
    let item : Action = c.action-item.result in
    let v : ViewTree = view_tree c.args.view.now in
    let drawn : List Action → List Piece = λ as'. level_pieces v c.args.k (action_trees (map action_tree as')) in
    let here = drop_at_place xs i item (omega arith) c.action-item.is in
    ap (λ (b : List ℕ). written b (drawn (drop (i + 1) xs))) c.in_ok-bytes.ensures
    ∙ sym (written_append c.loop-action.bytes.items (level_piece v c.args.k (action_tree item)) (drawn (drop (i + 1) xs)))
    ∙ ap (λ (as' : List Action). written c.loop-action.bytes.items (drawn as')) (sym here)
    ∙ c.loop-action.invariant

pub in_graph-loop-k-preserved : goal.in_graph-loop-k-preserved
in_graph-loop-k-preserved t c =
    level_more c.args.bytes.items (λ k. level_pieces (view_tree c.args.view.now) k (graph_tree c.args.graph.now)) c.loop-k.k
    c.loop-k.bytes.items _ _ _ c.loop-k.invariant c.in_ok-bytes-2.ensures c.in_ok-bytes-3.ensures c.in_ok-bytes-4.ensures

pub in_cases-in_held-requires : goal.in_cases-in_held-requires
in_cases-in_held-requires t c =
    let xs : List Case = c.as_slice-case-items.result.now in
    let item : Case = c.case-item.result in
    let whole : cases_size (case_trees (map case_tree xs)) ≡ cases_size (case_trees (cases_seen c.args.cases.now)) =
    ap (λ ts. cases_size (case_trees ts)) c.as_slice-case-items.ensures in
    let same : graph_size (graph_tree (out-Case item).graph) ≡ graph_size (case_tree (get_or xs c.loop-case.case-index item)).1.1 =
    sym (ap (λ (a : CaseTree). graph_size a.1.1) (case_tree-is item)) ∙ ap (λ (a : Case). graph_size (case_tree a).1.1) c.case-item.is in
    let here = case-falls xs c.loop-case.case-index item (omega arith) in
    omega (arith, c.decreases, whole, same, here)

pub in_cases-loop-case-preserved : goal.in_cases-loop-case-preserved
in_cases-loop-case-preserved t c =
    let cs : List Case = c.as_slice-case-items.result.now in
    let i = c.loop-case.case-index in
    let item : Case = c.case-item.result in
    let v : ViewTree = view_tree c.args.view.now in
    let b : List ℕ = c.loop-case.bytes.items in
    let rest : List Piece = cases_pieces v (case_trees (map case_tree (drop (i + 1) cs))) in
    let word : List ℕ = case_word (out-Case item).name (tree (out-Case item).value) in
    let one : List ℕ → List Piece = λ w. held w (graph_pieces v (graph_tree (out-Case item).graph)) in
    let here = drop_at_place cs i item (omega arith) c.case-item.is in
    ap (λ (x : List ℕ). written x rest) c.in_ok-bytes.ensures
    ∙ ap (λ (w : List ℕ). written (written b (one w)) rest) (c.deref.ensures.value ∙ c.in_ok-word.ensures)
    ∙ sym (written_append b (one word) rest)
    ∙ sym (ap (λ (a : CaseTree). written b (held (case_word a.0 a.1.0) (graph_pieces v a.1.1) ++ rest)) (case_tree-is item))
    ∙ ap (λ (xs : List Case). written b (cases_pieces v (case_trees (map case_tree xs)))) (sym here)
    ∙ c.loop-case.invariant

pub in_graph-returns : goal.in_graph-returns
in_graph-returns t c =
    let g : Graph = c.args.graph.now in
    let v : ViewTree = view_tree c.args.view.now in
    let b : List ℕ = c.args.bytes.items in
    let level : ℕ → List Piece = λ k. level_pieces v k (graph_tree g) in
    let count : c.depth-count.result ≡ depth v.levels (actions_in (graph_tree g)) =
    c.depth-count.ensures ∙ ap (λ (as' : List ActionTree). depth v.levels as') (sym (ap actions_in (graph_tree-is g) ∙ actions_in_trees _)) in
    let below : c.loop-k.k ≤ c.depth-count.result = c.loop-k.auto.k-end in
    let ends : c.loop-k.k ≡ c.depth-count.result = omega (arith, c.loop-k-test.false, below) in
    let whole =
    ap (λ (n : ℕ). written b (in_levels n level)) (sym (ends ∙ count))
    ∙ step b c.loop-k.bytes.items (opened Tag.Graph ∷ each_level c.loop-k.k level) (closed Tag.Graph ∷ []) c.loop-k.invariant in
    subst (λ (x : List ℕ). IfOk c.close-2.result (λ y. y.items ≡ x)) (sym whole) c.close-2.ensures

pub in_action-returns : goal.in_action-returns
in_action-returns t c =
    let a : Action = c.args.action.now in
    let o = out-Action a in
    let v : ViewTree = view_tree c.args.view.now in
    let b : List ℕ = c.args.bytes.items in
    let here : level_at v.levels o.number ≡ c.args.k = sym c.level_at.ensures ∙ c.if-level_at-k.false in
    let whole =
    ap (λ (tree' : ActionTree). written b (level_piece v c.args.k tree')) (action_tree-is a)
    ∙ drawn_action v c.args.k o.name o.number o.pointer o.after (kind_tree o.kind) o.tracked (map row_tree c.rows_of-rows.result.now)
    c.look_of_rows-look.result b c.in_ok-bytes.bytes.items c.in_ok-bytes-2.bytes.items c.in_ok-bytes-3.bytes.items here c.rows_of-rows.ensures
    c.look_of_rows-look.ensures c.in_ok-bytes.ensures c.in_ok-bytes-2.ensures c.in_ok-bytes-3.ensures in
    subst (λ (x : List ℕ). IfOk c.close.result (λ y. y.items ≡ x)) (sym whole) c.close.ensures

pub in_kind-returns-in-Scope : goal.in_kind-returns-in-Scope
in_kind-returns-in-Scope t c =
    let v : ViewTree = view_tree c.args.view.now in
    let seen = ap kind_tree c.in-Scope.is ∙ scope_seen c.in-Scope.graph in
    subst (λ (k : KindTree). IfOk c.in_one.result (λ y. y.items ≡ written c.args.bytes.items (kind_pieces v k))) (sym seen) c.in_one.ensures

pub in_kind-returns-in-Foreach : goal.in_kind-returns-in-Foreach
in_kind-returns-in-Foreach t c =
    let v : ViewTree = view_tree c.args.view.now in
    let seen = ap kind_tree c.in-Foreach.is ∙ foreach_seen c.in-Foreach.list c.in-Foreach.repetitions c.in-Foreach.graph in
    subst (λ (k : KindTree). IfOk c.in_one-in-Foreach.result (λ y. y.items ≡ written c.args.bytes.items (kind_pieces v k))) (sym seen)
    c.in_one-in-Foreach.ensures

pub in_kind-returns-in_ok-bytes-in-If-3 : goal.in_kind-returns-in_ok-bytes-in-If-3
in_kind-returns-in_ok-bytes-in-If-3 t c =
    let v : ViewTree = view_tree c.args.view.now in
    let b : List ℕ = c.args.bytes.items in
    let yes' : List Piece = held (codes "where the test holds") (graph_pieces v (graph_tree c.in-If.yes)) in
    let no' : List Piece = held (codes "else") (graph_pieces v (graph_tree c.in-If.no)) in
    let seen = ap kind_tree c.in-If.is ∙ if_seen c.in-If.test c.in-If.yes c.in-If.no in
    let whole =
    ap (λ (k : KindTree). written b (kind_pieces v k)) seen
    ∙ two_inside b c.in_ok-bytes-in-If.bytes.items c.in_ok-bytes-in-If-2.bytes.items c.in_ok-bytes-in-If-3.bytes.items Tag.Branches yes' no'
    c.in_ok-bytes-in-If.ensures c.in_ok-bytes-in-If-2.ensures c.in_ok-bytes-in-If-3.ensures in
    subst (λ (x : List ℕ). IfOk c.close.result (λ y. y.items ≡ x)) (sym whole) c.close.ensures

pub in_kind-returns-in_ok-bytes-in-Some : goal.in_kind-returns-in_ok-bytes-in-Some
in_kind-returns-in_ok-bytes-in-Some t c =
    let v : ViewTree = view_tree c.args.view.now in
    let b : List ℕ = c.args.bytes.items in
    let cases : List Piece = cases_pieces v (case_trees (cases_seen c.in-Switch.cases)) in
    let default : List Piece = held (codes "default") (graph_pieces v (graph_tree c.in-Some.graph)) in
    let seen =
    ap kind_tree (c.in-Switch.is ∙ ap (λ d. kinds.Switch c.in-Switch.on c.in-Switch.cases d) c.in-Some.is)
    ∙ switch_else_seen c.in-Switch.on c.in-Switch.cases c.in-Some.graph in
    let whole =
    ap (λ (k : KindTree). written b (kind_pieces v k)) seen
    ∙ two_inside b c.in_ok-bytes-in-Switch.bytes.items c.in_ok-bytes-in-Switch-2.bytes.items c.in_ok-bytes-in-Some.bytes.items Tag.Branches cases
    default c.in_ok-bytes-in-Switch.ensures c.in_ok-bytes-in-Switch-2.ensures c.in_ok-bytes-in-Some.ensures in
    subst (λ (x : List ℕ). IfOk c.close-in-Some.result (λ y. y.items ≡ x)) (sym whole) c.close-in-Some.ensures

pub in_kind-returns-in-None : goal.in_kind-returns-in-None
in_kind-returns-in-None t c =
    let v : ViewTree = view_tree c.args.view.now in
    let b : List ℕ = c.args.bytes.items in
    let cases : List Piece = cases_pieces v (case_trees (cases_seen c.in-Switch.cases)) in
    let seen =
    ap kind_tree (c.in-Switch.is ∙ ap (λ d. kinds.Switch c.in-Switch.on c.in-Switch.cases d) c.in-None.is)
    ∙ switch_seen c.in-Switch.on c.in-Switch.cases in
    let whole =
    ap (λ (k : KindTree). written b (kind_pieces v k)) seen
    ∙ step_inside b c.in_ok-bytes-in-Switch.bytes.items c.in_ok-bytes-in-Switch-2.bytes.items Tag.Branches cases
    c.in_ok-bytes-in-Switch.ensures c.in_ok-bytes-in-Switch-2.ensures in
    subst (λ (x : List ℕ). IfOk c.close-in-None.result (λ y. y.items ≡ x)) (sym whole) c.close-in-None.ensures
