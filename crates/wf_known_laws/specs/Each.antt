-- What holds of a graph of actions, and of each graph in its actions, at any depth.
use Rattle.wf_reading.specs.ActionTree.{action, KindTree, compose, connector, wait, response, terminate, select, query, join, parse_json}
use Rattle.wf_reading.specs.ActionTree.{initialize, set_to, increment, decrement, append_array, append_string, scope, branch, switch}
use Rattle.wf_reading.specs.ActionTree.{switch_else, foreach, until, ActionTrees, no_actions, action_then, CaseTrees, no_cases, case_then}

module _ (Holds : ActionTrees → Type 0) where
  abbrev mutual
    -- of the graphs in the actions of a graph
    pub EachInside : ActionTrees → Type 0
    EachInside no_actions = Unit {0}
    EachInside (action_then (action name number pointer after kind tracked) rest) = EachIn kind × EachInside rest

    pub EachIn : KindTree → Type 0
    EachIn (compose inputs) = Unit {0}
    EachIn (connector inputs policy) = Unit {0}
    EachIn (wait inputs) = Unit {0}
    EachIn (response inputs) = Unit {0}
    EachIn (terminate inputs) = Unit {0}
    EachIn (select from item) = Unit {0}
    EachIn (query from filter) = Unit {0}
    EachIn (join from with') = Unit {0}
    EachIn (parse_json content schema) = Unit {0}
    EachIn (initialize variables) = Unit {0}
    EachIn (set_to name value) = Unit {0}
    EachIn (increment name value) = Unit {0}
    EachIn (decrement name value) = Unit {0}
    EachIn (append_array name value) = Unit {0}
    EachIn (append_string name value) = Unit {0}
    EachIn (scope graph) = Holds graph × EachInside graph
    EachIn (branch test yes' no') = (Holds yes' × EachInside yes') × (Holds no' × EachInside no')
    EachIn (switch on cases) = EachCase cases
    EachIn (switch_else on cases default) = EachCase cases × (Holds default × EachInside default)
    EachIn (foreach items repetitions graph) = Holds graph × EachInside graph
    EachIn (until test count fails graph) = Holds graph × EachInside graph

    pub EachCase : CaseTrees → Type 0
    EachCase no_cases = Unit {0}
    EachCase (case_then name value graph rest) = (Holds graph × EachInside graph) × EachCase rest

  -- of the graph itself, and of each inside it
  abbrev pub EachGraph : ActionTrees → Type 0
  EachGraph graph = Holds graph × EachInside graph
