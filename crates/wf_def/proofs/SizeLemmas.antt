-- A part of a graph is smaller than the graph.
use Rattle.std.proofs.Common.{◌≡◌, ◌+◌, ◌<◌, ◌≤◌, ℕ, zero, suc, List, [], ◌∷◌, length, map, drop, drop-cons, get_or, add-one, arith, refl, ap, sym, ◌∙◌, rules}
use Rattle.wf_def.specs.ActionTree.{ActionTree, action, ActionTrees, action_then, action_trees, CaseTree, case_trees}
use Rattle.wf_val.specs.Seen.{tree}
use Rattle.wf_def.specs.ActionSeen.{action_tree, actions_seen, case_tree, graph_tree}
use Rattle.wf_def.specs.Names.{action_size, cases_size, graph_size}
use Rattle.wf_def.specs.declared.graph.Action.{Action}
use Rattle.wf_def.specs.declared.graph.Case.{Case, out-Case}
use Rattle.wf_def.specs.declared.graph.Graph.{Graph, out-Graph}
use Rattle.wf_def.specs.declared.graph.Kind.TheFolds.{fold_out-Graph, fold_out-Actions, fold_out-Case}

-- what a graph and a case stand for, by their fields
pub graph_tree-is : (g : Graph) → graph_tree g ≡ action_trees (actions_seen (out-Graph g).actions)
graph_tree-is g = search (rules, fold_out-Graph, fold_out-Actions)

pub case_tree-is : (c : Case) → case_tree c ≡ ((out-Case c).name, (tree (out-Case c).value, graph_tree (out-Case c).graph))
case_tree-is c = search (rules, fold_out-Case)

pub size-then : (a : ActionTree) (rest : ActionTrees) → graph_size (action_then a rest) ≡ 1 + action_size a + graph_size rest
size-then (action name number pointer after kind tracked) rest = omega arith

pub action-falls : (xs : List Action) (i : ℕ) (d : Action) → i < length xs
    → action_size (action_tree (get_or xs i d)) < graph_size (action_trees (map action_tree xs))
action-falls [] i d within = absurd (omega arith)
action-falls (a ∷ as') zero d within = omega (arith, size-then (action_tree a) (action_trees (map action_tree as')))
action-falls (a ∷ as') (suc i) d within = omega (
  arith,
  size-then (action_tree a) (action_trees (map action_tree as')),
  action-falls as' i d (omega arith),
)

pub case-falls : (cs : List Case) (i : ℕ) (d : Case) → i < length cs
    → graph_size (case_tree (get_or cs i d)).1.1 < cases_size (case_trees (map case_tree cs))
case-falls [] i d within = absurd (omega arith)
case-falls (c ∷ cs) zero d within = omega arith
case-falls (c ∷ cs) (suc i) d within = omega (arith, case-falls cs i d (omega arith))

-- the list from a place on
pub drop_at_place : {X : Type 0} (xs : List X) (i : ℕ) (x : X) → i < length xs → x ≡ get_or xs i x → drop i xs ≡ x ∷ drop (i + 1) xs
drop_at_place xs i x within is = rw add-one (drop-cons xs i x within ∙ ap (λ y. y ∷ drop (suc i) xs) (sym is))
