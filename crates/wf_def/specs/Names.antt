-- The actions of a graph at every depth, in the order of the tree: an action comes before those inside it, and these before the next of
-- its graph.
use Rattle.std.specs.Prelude.{ℕ, ◌+◌, Bool, List, [], ◌∷◌, ◌++◌, Option, Some, None, if◌then◌else◌, bytes_eq}
use Rattle.wf_def.specs.ActionTree.{ActionTree, action, KindTree, compose, connector, wait, response, terminate, select, query, join, parse_json, initialize, set_to, increment, decrement, append_array, append_string, scope, branch, switch, switch_else, foreach, until, ActionTrees, no_actions, action_then, CaseTrees, no_cases, case_then}

-- their names
abbrev mutual
  pub graph_names : ActionTrees → List (List ℕ)
  graph_names no_actions = []
  graph_names (action_then (action name number pointer after kind tracked) rest) = name ∷ (kind_names kind ++ graph_names rest)

  pub kind_names : KindTree → List (List ℕ)
  kind_names (compose inputs) = []
  kind_names (connector inputs policy) = []
  kind_names (wait inputs) = []
  kind_names (response inputs) = []
  kind_names (terminate inputs) = []
  kind_names (select from item) = []
  kind_names (query from filter) = []
  kind_names (join from with') = []
  kind_names (parse_json content schema) = []
  kind_names (initialize variables) = []
  kind_names (set_to name value) = []
  kind_names (increment name value) = []
  kind_names (decrement name value) = []
  kind_names (append_array name value) = []
  kind_names (append_string name value) = []
  kind_names (scope graph) = graph_names graph
  kind_names (branch test yes' no') = graph_names yes' ++ graph_names no'
  kind_names (switch on cases) = cases_names cases
  kind_names (switch_else on cases default) = cases_names cases ++ graph_names default
  kind_names (foreach items repetitions graph) = graph_names graph
  kind_names (until test count fails graph) = graph_names graph

  pub cases_names : CaseTrees → List (List ℕ)
  cases_names no_cases = []
  cases_names (case_then name value graph rest) = graph_names graph ++ cases_names rest

-- an action's own name, and those of all actions inside it
abbrev pub names_in : ActionTree → List (List ℕ)
names_in (action name number pointer after kind tracked) = name ∷ kind_names kind

-- the first of two, if it is there
abbrev pub first_of : Option ActionTree → Option ActionTree → Option ActionTree
first_of (Some a) other = Some a
first_of None other = other

-- the first action that has the name
abbrev mutual
  pub find_in : List ℕ → ActionTrees → Option ActionTree
  find_in k no_actions = None
  find_in k (action_then (action name number pointer after kind tracked) rest) =
      first_of (if bytes_eq k name then Some (action name number pointer after kind tracked) else find_inside k kind) (find_in k rest)

  pub find_inside : List ℕ → KindTree → Option ActionTree
  find_inside k (compose inputs) = None
  find_inside k (connector inputs policy) = None
  find_inside k (wait inputs) = None
  find_inside k (response inputs) = None
  find_inside k (terminate inputs) = None
  find_inside k (select from item) = None
  find_inside k (query from filter) = None
  find_inside k (join from with') = None
  find_inside k (parse_json content schema) = None
  find_inside k (initialize variables) = None
  find_inside k (set_to name value) = None
  find_inside k (increment name value) = None
  find_inside k (decrement name value) = None
  find_inside k (append_array name value) = None
  find_inside k (append_string name value) = None
  find_inside k (scope graph) = find_in k graph
  find_inside k (branch test yes' no') = first_of (find_in k yes') (find_in k no')
  find_inside k (switch on cases) = find_cases k cases
  find_inside k (switch_else on cases default) = first_of (find_cases k cases) (find_in k default)
  find_inside k (foreach items repetitions graph) = find_in k graph
  find_inside k (until test count fails graph) = find_in k graph

  pub find_cases : List ℕ → CaseTrees → Option ActionTree
  find_cases k no_cases = None
  find_cases k (case_then name value graph rest) = first_of (find_in k graph) (find_cases k rest)

abbrev pub find_at : List ℕ → ActionTree → Option ActionTree
find_at k (action name number pointer after kind tracked) =
    if bytes_eq k name then Some (action name number pointer after kind tracked) else find_inside k kind

-- how large a graph is: more than each part of it, so a recursion into graphs ends
abbrev mutual
  pub graph_size : ActionTrees → ℕ
  graph_size no_actions = 0
  graph_size (action_then (action name number pointer after kind tracked) rest) = 2 + kind_size kind + graph_size rest

  pub kind_size : KindTree → ℕ
  kind_size (compose inputs) = 0
  kind_size (connector inputs policy) = 0
  kind_size (wait inputs) = 0
  kind_size (response inputs) = 0
  kind_size (terminate inputs) = 0
  kind_size (select from item) = 0
  kind_size (query from filter) = 0
  kind_size (join from with') = 0
  kind_size (parse_json content schema) = 0
  kind_size (initialize variables) = 0
  kind_size (set_to name value) = 0
  kind_size (increment name value) = 0
  kind_size (decrement name value) = 0
  kind_size (append_array name value) = 0
  kind_size (append_string name value) = 0
  kind_size (scope graph) = 1 + graph_size graph
  kind_size (branch test yes' no') = 1 + graph_size yes' + graph_size no'
  kind_size (switch on cases) = 1 + cases_size cases
  kind_size (switch_else on cases default) = 1 + cases_size cases + graph_size default
  kind_size (foreach items repetitions graph) = 1 + graph_size graph
  kind_size (until test count fails graph) = 1 + graph_size graph

  pub cases_size : CaseTrees → ℕ
  cases_size no_cases = 0
  cases_size (case_then name value graph rest) = 1 + graph_size graph + cases_size rest

abbrev pub action_size : ActionTree → ℕ
action_size (action name number pointer after kind tracked) = 1 + kind_size kind
