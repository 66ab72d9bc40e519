-- The tables of a plan as a walk over all actions fills them.
use Rattle.std.specs.Prelude.{ℕ, zero, suc, Bool, true, false, List, [], ◌∷◌, ◌++◌, Option, Some, None, map}
use Rattle.wf_def.specs.ActionTree.{ActionTree, action, action_after, action_kind, action_number, KindTree, compose, connector, wait, response, terminate}
use Rattle.wf_def.specs.ActionTree.{select, query, join, parse_json, initialize, set_to, increment, decrement, append_array, append_string}
use Rattle.wf_def.specs.ActionTree.{branch, switch, switch_else, ActionTrees, no_actions, action_then, CaseTrees, no_cases, case_then}
use Rattle.wf_def.specs.ActionTree as trees
use Rattle.wf_def.specs.Layered.{layered_kind}
use Rattle.wf_plan.specs.Plan.{BranchTree, EntryTree, ShapeTree, leaf, scope, choice, foreach, until, entry_of, shape_of}

-- a table with another item at a place
abbrev pub edit_at : {A : Type 0} → List A → ℕ → (A → A) → List A
edit_at [] place edit = []
edit_at (x ∷ xs) zero edit = edit x ∷ xs
edit_at (x ∷ xs) (suc place) edit = x ∷ edit_at xs place edit

abbrev pub is_free : {A : Type 0} → Option (Option A) → Bool
is_free (Some None) = true
is_free o = false

-- where a place is free, it is taken
abbrev pub or_this : {A : Type 0} → Option A → A → Option A
or_this None v = Some v
or_this (Some w) v = Some w

abbrev pub take_place : {A : Type 0} → List (Option A) → ℕ → A → List (Option A)
take_place table place v = edit_at table place (λ o. or_this o v)

abbrev pub all_entered : List (Option EntryTree) → List ActionTree → List (Option EntryTree)
all_entered table [] = table
all_entered table (a ∷ as') = all_entered (take_place table (action_number a) (entry_of a)) as'

-- a number behind the list at a place; and behind those at each of several places
abbrev pub add_at : List (List ℕ) → ℕ → ℕ → List (List ℕ)
add_at table place n = edit_at table place (λ ns. ns ++ n ∷ [])

abbrev pub added : List (List ℕ) → List ℕ → ℕ → List (List ℕ)
added table [] n = table
added table (place ∷ places) n = added (add_at table place n) places n

abbrev pub all_added : List (List ℕ) → List ActionTree → List (List ℕ)
all_added table [] = table
all_added table (a ∷ as') = all_added (added table (map (λ e. e.number) (action_after a)) (action_number a)) as'

-- the holder of each of several actions
abbrev pub held : List (Option ℕ) → List ℕ → ℕ → List (Option ℕ)
held table [] n = table
held table (place ∷ places) n = held (take_place table place n) places n

abbrev pub all_own : List BranchTree → List ℕ
all_own [] = []
all_own (b ∷ bs) = b.own ++ all_own bs

-- the actions that stand in a graph of the shape
abbrev pub numbers_in : ShapeTree → List ℕ
numbers_in leaf = []
numbers_in (scope ns) = ns
numbers_in (choice bs) = all_own bs
numbers_in (foreach pace ns) = ns
numbers_in (until most ns) = ns

abbrev pub all_held : List (Option ℕ) → List ActionTree → List (Option ℕ)
all_held table [] = table
all_held table (a ∷ as') = all_held (held table (numbers_in (shape_of (layered_kind (action_kind a)))) (action_number a)) as'

-- The actions of a tree that stand in no loop there, an action before those inside it.
abbrev mutual
  pub block_in : ActionTrees → List ℕ
  block_in no_actions = []
  block_in (action_then (action name number pointer after kind tracked) rest) = number ∷ (block_inside kind ++ block_in rest)

  pub block_inside : KindTree → List ℕ
  block_inside (compose inputs) = []
  block_inside (connector inputs policy) = []
  block_inside (wait inputs) = []
  block_inside (response inputs) = []
  block_inside (terminate inputs) = []
  block_inside (select from item) = []
  block_inside (query from filter) = []
  block_inside (join from with') = []
  block_inside (parse_json content schema) = []
  block_inside (initialize variables) = []
  block_inside (set_to name value) = []
  block_inside (increment name value) = []
  block_inside (decrement name value) = []
  block_inside (append_array name value) = []
  block_inside (append_string name value) = []
  block_inside (trees.scope graph) = block_in graph
  block_inside (branch test yes' no') = block_in yes' ++ block_in no'
  block_inside (switch on cases) = block_cases cases
  block_inside (switch_else on cases default) = block_cases cases ++ block_in default
  block_inside (trees.foreach items repetitions graph) = []
  block_inside (trees.until test count fails graph) = []

  pub block_cases : CaseTrees → List ℕ
  block_cases no_cases = []
  block_cases (case_then name value graph rest) = block_in graph ++ block_cases rest

-- an action, and those
abbrev pub block_of : ActionTree → List ℕ
block_of (action name number pointer after kind tracked) = number ∷ block_inside kind
