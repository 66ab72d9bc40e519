-- What is known of a definition that was read.
use Rattle.std.specs.Prelude.{◌≡◌, ◌<◌, ℕ, Bool, true, false, List, [], ◌∷◌, ◌++◌, map, bytes_eq}
use Rattle.std.specs.List.{AllByRecursion, count_by, list_any}
use Rattle.wf_def.specs.ActionTree.{ActionTree, action, action_after, action_name, KindTree, compose, connector, wait, response, terminate, select, query, join, parse_json, initialize, set_to, increment, decrement, append_array, append_string, scope, branch, switch, switch_else, foreach, until, ActionTrees, no_actions, action_then, actions_in, CaseTrees, no_cases, case_then}
use Rattle.wf_def.specs.Names.{graph_names}
use Rattle.wf_reading.specs.Numbers.{is_below}

-- one of these actions has the name
abbrev pub is_named : List ℕ → List ActionTree → Bool
is_named k as' = list_any (λ a. bytes_eq k (action_name a)) as'

-- Each entry of a `runAfter` names an action of the same graph, and there are numbers, by names, that fall along every entry. So no action
-- waits for itself, by however many others, and to go by depth ends.
pub record HasDepths (graph : ActionTrees) : Type 0 where
  pub depth : List ℕ → ℕ
  pub falls : AllByRecursion (λ a. AllByRecursion (λ e. (is_named e.name (actions_in graph) ≡ true) × (depth e.name < depth (action_name a))) (action_after a)) (actions_in graph)

-- each of these names differs from all after it
abbrev pub AreOnce : List (List ℕ) → Type 0
AreOnce [] = Unit {0}
AreOnce (n ∷ ns) = (list_any (bytes_eq n) ns ≡ false) × AreOnce ns

-- the numbers of all actions of a graph, in the order of their names in `graph_names`
abbrev mutual
  pub graph_numbers : ActionTrees → List ℕ
  graph_numbers no_actions = []
  graph_numbers (action_then (action name number pointer after kind tracked) rest) = number ∷ (kind_numbers kind ++ graph_numbers rest)

  pub kind_numbers : KindTree → List ℕ
  kind_numbers (compose inputs) = []
  kind_numbers (connector inputs policy) = []
  kind_numbers (wait inputs) = []
  kind_numbers (response inputs) = []
  kind_numbers (terminate inputs) = []
  kind_numbers (select from item) = []
  kind_numbers (query from filter) = []
  kind_numbers (join from with') = []
  kind_numbers (parse_json content schema) = []
  kind_numbers (initialize variables) = []
  kind_numbers (set_to name value) = []
  kind_numbers (increment name value) = []
  kind_numbers (decrement name value) = []
  kind_numbers (append_array name value) = []
  kind_numbers (append_string name value) = []
  kind_numbers (scope graph) = graph_numbers graph
  kind_numbers (branch test yes' no') = graph_numbers yes' ++ graph_numbers no'
  kind_numbers (switch on cases) = cases_numbers cases
  kind_numbers (switch_else on cases default) = cases_numbers cases ++ graph_numbers default
  kind_numbers (foreach items repetitions graph) = graph_numbers graph
  kind_numbers (until test count fails graph) = graph_numbers graph

  pub cases_numbers : CaseTrees → List ℕ
  cases_numbers no_cases = []
  cases_numbers (case_then name value graph rest) = graph_numbers graph ++ cases_numbers rest

-- An action's number is the place of its name among the names of all actions: how many of them are below it, in byte order.
abbrev pub AreNumbered : ActionTrees → Type 0
AreNumbered graph = graph_numbers graph ≡ map (λ k. count_by (is_below k) (graph_names graph)) (graph_names graph)
