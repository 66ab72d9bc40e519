-- All actions of a definition, each with the loops round it, as a walk finds them.
use Rattle.std.specs.Prelude.{ℕ, Bool, List, [], ◌∷◌, ◌++◌}
use Rattle.wf_def.specs.ActionTree.{ActionTree, action, KindTree, scope, branch, switch, switch_else, foreach, until, ActionTrees}
use Rattle.wf_def.specs.ActionTree.{no_actions, action_then, CaseTrees, no_cases, case_then}
use Rattle.wf_def.specs.AllActions.{has_number}

pub record Walked : Type 0 where
  pub action : ActionTree
  pub loops : List ℕ

-- those of a graph that stands inside these loops: an action comes before those inside it, and these before the next of its graph
abbrev mutual
  pub graph_walk : List ℕ → ActionTrees → List Walked
  graph_walk round no_actions = []
  graph_walk round (action_then a rest) = action_walk round a ++ graph_walk round rest

  pub action_walk : List ℕ → ActionTree → List Walked
  action_walk round (action name number pointer after kind tracked) =
      record { action = action name number pointer after kind tracked; loops = round } ∷ kind_walk round number kind

  pub kind_walk : List ℕ → ℕ → KindTree → List Walked
  kind_walk round n (scope graph) = graph_walk round graph
  kind_walk round n (branch test yes' no') = graph_walk round yes' ++ graph_walk round no'
  kind_walk round n (switch on cases) = cases_walk round cases
  kind_walk round n (switch_else on cases default) = cases_walk round cases ++ graph_walk round default
  kind_walk round n (foreach items repetitions graph) = graph_walk (round ++ n ∷ []) graph
  kind_walk round n (until test count fails graph) = graph_walk (round ++ n ∷ []) graph
  kind_walk round n kind = []

  pub cases_walk : List ℕ → CaseTrees → List Walked
  cases_walk round no_cases = []
  cases_walk round (case_then name value graph rest) = graph_walk round graph ++ cases_walk round rest

-- whether it is the action of a number
abbrev pub is_at : ℕ → Walked → Bool
is_at n w = has_number n w.action
