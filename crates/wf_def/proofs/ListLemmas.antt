-- The actions of a graph as a list.
use Rattle.std.proofs.Common.{◌≡◌, List, [], ◌∷◌, refl, ap, ◌∙◌}
use Rattle.wf_def.proofs.SizeLemmas.{graph_tree-is}
use Rattle.wf_def.specs.ActionSeen.{actions_seen, graph_tree}
use Rattle.wf_def.specs.ActionTree.{ActionTree, action_trees, actions_in}
use Rattle.wf_def.specs.declared.graph.Graph.{Graph, out-Graph}

-- they are those that it was made of
pub actions_in_trees : (as' : List ActionTree) → actions_in (action_trees as') ≡ as'
actions_in_trees [] = refl
actions_in_trees (a ∷ as') = ap (λ xs. a ∷ xs) (actions_in_trees as')

pub tops_listed : (g : Graph) → actions_in (graph_tree g) ≡ actions_seen (out-Graph g).actions
tops_listed g = ap actions_in (graph_tree-is g) ∙ actions_in_trees (actions_seen (out-Graph g).actions)
