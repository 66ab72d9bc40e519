-- The graph that a definition is to the laws of order and meaning (wf_layers): actions go by their numbers, and of what an action does
-- there is left which graphs it holds, and how its iterations go.
use Rattle.std.specs.Prelude.{ℕ, suc, List, [], ◌∷◌, ◌++◌, map, Bool, true, false, if◌then◌else◌, ◌==◌}
use Rattle.wf_layers.specs.Definition as layers
use Rattle.wf_def.specs.ActionTree.{ActionTree, action, KindTree, compose, connector, wait, response, terminate, select, query, join, parse_json, initialize, set_to, increment, decrement, append_array, append_string, scope, branch, switch, switch_else, foreach, until, ActionTrees, no_actions, action_then, CaseTrees, no_cases, case_then}
use Rattle.wf_def.specs.declared.after.After.{After}
use Rattle.wf_def.specs.declared.after.Statuses.{Statuses}

abbrev pub where_listed : Bool → layers.Status → List layers.Status
where_listed true s = s ∷ []
where_listed false s = []

-- the statuses that are listed
abbrev pub listed_of : Statuses → List layers.Status
listed_of s = where_listed s.succeeded layers.Succeeded ++ (where_listed s.failed layers.Failed
    ++ (where_listed s.skipped layers.Skipped ++ where_listed s.timed_out layers.TimedOut))

-- an entry of `runAfter`
abbrev pub need_of : After → layers.Need
need_of a = record { name = a.number; listed = listed_of a.statuses }

-- with one repetition at a time a Foreach goes in turn
abbrev pub pace : ℕ → layers.Pace
pace repetitions = if repetitions == 1 then layers.InTurn else layers.AtMost repetitions

abbrev mutual
  pub layered : ActionTrees → layers.Graph
  layered no_actions = layers.done
  layered (action_then (action name number pointer after kind tracked) rest) =
      layers.add number (map need_of after) (layered_kind kind) (layered rest)

  pub layered_kind : KindTree → layers.Kind
  layered_kind (compose inputs) = layers.Leaf
  layered_kind (connector inputs policy) = layers.Leaf
  layered_kind (wait inputs) = layers.Leaf
  layered_kind (response inputs) = layers.Leaf
  layered_kind (terminate inputs) = layers.Leaf
  layered_kind (select from item) = layers.Leaf
  layered_kind (query from filter) = layers.Leaf
  layered_kind (join from with') = layers.Leaf
  layered_kind (parse_json content schema) = layers.Leaf
  layered_kind (initialize variables) = layers.Leaf
  layered_kind (set_to name value) = layers.Leaf
  layered_kind (increment name value) = layers.Leaf
  layered_kind (decrement name value) = layers.Leaf
  layered_kind (append_array name value) = layers.Leaf
  layered_kind (append_string name value) = layers.Leaf
  layered_kind (scope graph) = layers.Scope (layered graph)
  layered_kind (branch test yes' no') = layers.Choice (layers.branch (layered yes') (layers.branch (layered no') layers.no_branch))
  layered_kind (switch on cases) = layers.Choice (layered_cases cases (layers.branch layers.done layers.no_branch))
  layered_kind (switch_else on cases default) = layers.Choice (layered_cases cases (layers.branch (layered default) layers.no_branch))
  layered_kind (foreach items repetitions graph) = layers.Foreach (pace repetitions) (layered graph)
  layered_kind (until test count fails graph) = layers.Until count (layered graph)

  -- the cases in their order, and behind them what is taken where none of them is: the default, or an empty graph
  pub layered_cases : CaseTrees → layers.Branches → layers.Branches
  layered_cases no_cases last = last
  layered_cases (case_then name value graph rest) last = layers.branch (layered graph) (layered_cases rest last)
