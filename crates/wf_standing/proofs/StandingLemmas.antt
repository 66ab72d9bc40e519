-- The actions of a graph begin with those of its first, and what an action is by its fields.
use Rattle.std.proofs.Common.{rules, ◌≡◌, ◌++◌, List, refl}
use Rattle.wf_def.specs.ActionSeen.{kind_tree}
use Rattle.wf_def.specs.ActionTree.{ActionTree, action, ActionTrees, action_then}
use Rattle.wf_def.specs.declared.graph.Action.{out-Action}
use Rattle.wf_def.specs.declared.graph.Kind.TheFolds.{fold_out-Action}
use Rattle.wf_standing.specs.Seen.{standing_tree}
use Rattle.wf_standing.specs.Standing.{action_standings, graph_standings, kind_at, name_at, number_at, pointer_at}
use Rattle.wf_standing.specs.declared.standing.Standing.{Standing}

pub standings-then : (round : List ActionTree) (a : ActionTree) (rest : ActionTrees)
    → graph_standings round (action_then a rest) ≡ action_standings round a ++ graph_standings round rest
standings-then round (action name number pointer after kind tracked) rest = refl

pub kind-seen : (s : Standing) → kind_at (standing_tree s) ≡ kind_tree (out-Action s.action.now).kind
kind-seen s = search (rules, fold_out-Action)

pub name-seen : (s : Standing) → name_at (standing_tree s) ≡ (out-Action s.action.now).name
name-seen s = search (rules, fold_out-Action)

pub number-seen : (s : Standing) → number_at (standing_tree s) ≡ (out-Action s.action.now).number
number-seen s = search (rules, fold_out-Action)

pub pointer-seen : (s : Standing) → pointer_at (standing_tree s) ≡ (out-Action s.action.now).pointer
pointer-seen s = search (rules, fold_out-Action)
