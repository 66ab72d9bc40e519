-- Which ranges the numbers of an action have, how deep graphs stand in one another, and what the entries of `runAfter` name.
use Rattle.std.specs.Prelude.{◌≡◌, ℕ, ◌+◌, ◌≤◌, max, true, bytes_eq}
use Rattle.std.specs.List.{AllByRecursion}
use Rattle.wf_retry.specs.declared.policy.Policy.{Policy}
use Rattle.wf_reading.specs.ActionTree.{ActionTree, action, action_after, action_kind, action_name}
use Rattle.wf_reading.specs.ActionTree.{action_number, KindTree, compose, connector}
use Rattle.wf_reading.specs.ActionTree.{wait, response, terminate, select, query, join}
use Rattle.wf_reading.specs.ActionTree.{parse_json, initialize, set_to, increment, decrement}
use Rattle.wf_reading.specs.ActionTree.{append_array, append_string, scope, branch, switch, switch_else, foreach, until, ActionTrees}
use Rattle.wf_reading.specs.ActionTree.{no_actions, action_then, actions_in, CaseTrees, no_cases, case_then}
use Rattle.wf_reading.specs.After.{After}

-- a request is sent again at most 90 times, and once at least where the number is told
abbrev pub IsPolicyInRange : Policy → Type 0
IsPolicyInRange (Policy.Count n) = (1 ≤ n) × (n ≤ 90)
IsPolicyInRange policy = Unit {0}

-- 1 to 50 iterations of a Foreach go at a time, and an Until has 1 to 5,000
abbrev pub IsInRange : KindTree → Type 0
IsInRange (connector inputs policy) = IsPolicyInRange policy
IsInRange (foreach items repetitions graph) = (1 ≤ repetitions) × (repetitions ≤ 50)
IsInRange (until test count fails graph) = (1 ≤ count) × (count ≤ 5000)
IsInRange kind = Unit {0}

-- of all actions of a graph
abbrev pub AreInRange : ActionTrees → Type 0
AreInRange graph = AllByRecursion (λ a. IsInRange (action_kind a)) (actions_in graph)

-- How many levels of actions a graph has: none where it has no action, and else one more than the graphs in its actions have at most.
abbrev mutual
  pub levels : ActionTrees → ℕ
  levels no_actions = 0
  levels (action_then (action name number pointer after kind tracked) rest) = max (1 + levels_in kind) (levels rest)

  pub levels_in : KindTree → ℕ
  levels_in (compose inputs) = 0
  levels_in (connector inputs policy) = 0
  levels_in (wait inputs) = 0
  levels_in (response inputs) = 0
  levels_in (terminate inputs) = 0
  levels_in (select from item) = 0
  levels_in (query from filter) = 0
  levels_in (join from with') = 0
  levels_in (parse_json content schema) = 0
  levels_in (initialize variables) = 0
  levels_in (set_to name value) = 0
  levels_in (increment name value) = 0
  levels_in (decrement name value) = 0
  levels_in (append_array name value) = 0
  levels_in (append_string name value) = 0
  levels_in (scope graph) = levels graph
  levels_in (branch test yes' no') = max (levels yes') (levels no')
  levels_in (switch on cases) = levels_among cases
  levels_in (switch_else on cases default) = max (levels_among cases) (levels default)
  levels_in (foreach items repetitions graph) = levels graph
  levels_in (until test count fails graph) = levels graph

  pub levels_among : CaseTrees → ℕ
  levels_among no_cases = 0
  levels_among (case_then name value graph rest) = max (levels graph) (levels_among rest)

-- an entry of a `runAfter` has the number of the action whose name it has
abbrev pub IsNumberOf : After → ActionTree → Type 0
IsNumberOf e a = bytes_eq e.name (action_name a) ≡ true → action_number a ≡ e.number

-- so does each entry of a graph
abbrev pub EntriesAreNumbered : ActionTrees → Type 0
EntriesAreNumbered graph =
    AllByRecursion (λ a. AllByRecursion (λ e. AllByRecursion (IsNumberOf e) (actions_in graph)) (action_after a)) (actions_in graph)
