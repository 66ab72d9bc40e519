-- The actions of a definition at every depth, in the order of the tree: an action comes before those inside it, and these before the next
-- of its graph.
use Rattle.std.specs.Prelude.{ℕ, Bool, List, [], ◌∷◌, ◌++◌, Option, nat_eq}
use Rattle.std.specs.List.{find}
use Rattle.wf_def.specs.ActionTree.{ActionTree, action, action_number, KindTree, compose, connector, wait, response, terminate, select}
use Rattle.wf_def.specs.ActionTree.{query, join, parse_json, initialize, set_to, increment, decrement, append_array, append_string, scope}
use Rattle.wf_def.specs.ActionTree.{branch, switch, switch_else, foreach, until, ActionTrees, no_actions, action_then, CaseTrees, no_cases}
use Rattle.wf_def.specs.ActionTree.{case_then}

abbrev mutual
  pub all_actions : ActionTrees → List ActionTree
  all_actions no_actions = []
  all_actions (action_then (action name number pointer after kind tracked) rest) =
      action name number pointer after kind tracked ∷ (kind_actions kind ++ all_actions rest)

  pub kind_actions : KindTree → List ActionTree
  kind_actions (compose inputs) = []
  kind_actions (connector inputs policy) = []
  kind_actions (wait inputs) = []
  kind_actions (response inputs) = []
  kind_actions (terminate inputs) = []
  kind_actions (select from item) = []
  kind_actions (query from filter) = []
  kind_actions (join from with') = []
  kind_actions (parse_json content schema) = []
  kind_actions (initialize variables) = []
  kind_actions (set_to name value) = []
  kind_actions (increment name value) = []
  kind_actions (decrement name value) = []
  kind_actions (append_array name value) = []
  kind_actions (append_string name value) = []
  kind_actions (scope graph) = all_actions graph
  kind_actions (branch test yes' no') = all_actions yes' ++ all_actions no'
  kind_actions (switch on cases) = cases_actions cases
  kind_actions (switch_else on cases default) = cases_actions cases ++ all_actions default
  kind_actions (foreach items repetitions graph) = all_actions graph
  kind_actions (until test count fails graph) = all_actions graph

  pub cases_actions : CaseTrees → List ActionTree
  cases_actions no_cases = []
  cases_actions (case_then name value graph rest) = all_actions graph ++ cases_actions rest

-- an action, and those inside it
abbrev pub with_inner : ActionTree → List ActionTree
with_inner (action name number pointer after kind tracked) = action name number pointer after kind tracked ∷ kind_actions kind

-- whether this is an action's number
abbrev pub has_number : ℕ → ActionTree → Bool
has_number n a = nat_eq n (action_number a)

-- the action of a number
abbrev pub numbered : ℕ → ActionTrees → Option ActionTree
numbered n graph = find (has_number n) (all_actions graph)
