-- Where each action of a definition stands.
use Rattle.std.specs.Prelude.{ℕ, List, [], ◌∷◌, ◌++◌}
use Rattle.wf_def.specs.ActionTree.{ActionTree, action, action_kind, action_name, action_number, action_pointer, KindTree, compose}
use Rattle.wf_def.specs.ActionTree.{connector, wait, response, terminate, select, query, join, parse_json, initialize, set_to, increment}
use Rattle.wf_def.specs.ActionTree.{decrement, append_array, append_string, scope, branch, switch, switch_else, foreach, until, ActionTrees}
use Rattle.wf_def.specs.ActionTree.{no_actions, action_then, CaseTrees, no_cases, case_then}

-- an action, and the containers round it, outermost first
pub record StandingTree : Type 0 where
  pub action : ActionTree
  pub round : List ActionTree

abbrev pub name_at : StandingTree → List ℕ
name_at s = action_name s.action

abbrev pub number_at : StandingTree → ℕ
number_at s = action_number s.action

abbrev pub pointer_at : StandingTree → List ℕ
pointer_at s = action_pointer s.action

abbrev pub kind_at : StandingTree → KindTree
kind_at s = action_kind s.action

-- those of a graph inside these containers, in the order of the tree: an action comes before those inside it, and these before the next
-- of its graph
abbrev mutual
  pub graph_standings : List ActionTree → ActionTrees → List StandingTree
  graph_standings round no_actions = []
  graph_standings round (action_then (action name number pointer after kind tracked) rest) =
      record { action = action name number pointer after kind tracked; round = round }
      ∷ (kind_standings (round ++ action name number pointer after kind tracked ∷ []) kind ++ graph_standings round rest)

  pub kind_standings : List ActionTree → KindTree → List StandingTree
  kind_standings round (compose inputs) = []
  kind_standings round (connector inputs policy) = []
  kind_standings round (wait inputs) = []
  kind_standings round (response inputs) = []
  kind_standings round (terminate inputs) = []
  kind_standings round (select from item) = []
  kind_standings round (query from filter) = []
  kind_standings round (join from with') = []
  kind_standings round (parse_json content schema) = []
  kind_standings round (initialize variables) = []
  kind_standings round (set_to name value) = []
  kind_standings round (increment name value) = []
  kind_standings round (decrement name value) = []
  kind_standings round (append_array name value) = []
  kind_standings round (append_string name value) = []
  kind_standings round (scope graph) = graph_standings round graph
  kind_standings round (branch test yes' no') = graph_standings round yes' ++ graph_standings round no'
  kind_standings round (switch on cases) = case_standings round cases
  kind_standings round (switch_else on cases default) = case_standings round cases ++ graph_standings round default
  kind_standings round (foreach items repetitions graph) = graph_standings round graph
  kind_standings round (until test count fails graph) = graph_standings round graph

  pub case_standings : List ActionTree → CaseTrees → List StandingTree
  case_standings round no_cases = []
  case_standings round (case_then name value graph rest) = graph_standings round graph ++ case_standings round rest

-- and those of an action and of all inside it
abbrev pub action_standings : List ActionTree → ActionTree → List StandingTree
action_standings round (action name number pointer after kind tracked) =
    record { action = action name number pointer after kind tracked; round = round }
    ∷ kind_standings (round ++ action name number pointer after kind tracked ∷ []) kind

abbrev pub standings_of : ActionTrees → List StandingTree
standings_of graph = graph_standings [] graph
