-- All actions of a definition, each with the way to it, as a walk finds them.
use Rattle.std.specs.Prelude.{ℕ, suc, Bool, List, [], ◌∷◌, ◌++◌}
use Rattle.wf_def.specs.ActionTree.{ActionTree, action, KindTree, scope, branch, switch, switch_else, foreach, until, ActionTrees}
use Rattle.wf_def.specs.ActionTree.{no_actions, action_then, CaseTrees, no_cases, case_then}
use Rattle.wf_def.specs.AllActions.{has_number}
use Rattle.wf_ways.specs.Way.{Step, step, whole, branch_of, item, round}

pub record Walked : Type 0 where
  pub action : ActionTree
  pub way : List Step

-- the number behind those of the cases, which are counted on from this one
abbrev pub behind : ℕ → CaseTrees → ℕ
behind k no_cases = k
behind k (case_then name value graph rest) = behind (suc k) rest

-- those of a graph that is reached on this way: an action comes before those inside it, and these before the next of its graph
abbrev mutual
  pub graph_walk : List Step → ActionTrees → List Walked
  graph_walk to no_actions = []
  graph_walk to (action_then a rest) = action_walk to a ++ graph_walk to rest

  pub action_walk : List Step → ActionTree → List Walked
  action_walk to (action name number pointer after kind tracked) =
      record { action = action name number pointer after kind tracked; way = to } ∷ kind_walk to number kind

  pub kind_walk : List Step → ℕ → KindTree → List Walked
  kind_walk to n (scope graph) = graph_walk (to ++ step n whole ∷ []) graph
  kind_walk to n (branch test yes' no') =
      graph_walk (to ++ step n (branch_of 1) ∷ []) yes' ++ graph_walk (to ++ step n (branch_of 2) ∷ []) no'
  kind_walk to n (switch on cases) = cases_walk to n 1 cases
  kind_walk to n (switch_else on cases default) =
      cases_walk to n 1 cases ++ graph_walk (to ++ step n (branch_of (behind 1 cases)) ∷ []) default
  kind_walk to n (foreach items repetitions graph) = graph_walk (to ++ step n item ∷ []) graph
  kind_walk to n (until test count fails graph) = graph_walk (to ++ step n round ∷ []) graph
  kind_walk to n kind = []

  pub cases_walk : List Step → ℕ → ℕ → CaseTrees → List Walked
  cases_walk to n k no_cases = []
  cases_walk to n k (case_then name value graph rest) =
      graph_walk (to ++ step n (branch_of k) ∷ []) graph ++ cases_walk to n (suc k) rest

-- whether it is the action of a number
abbrev pub is_at : ℕ → Walked → Bool
is_at n w = has_number n w.action
