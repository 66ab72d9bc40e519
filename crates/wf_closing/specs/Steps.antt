-- THE STEPS OF A GRAPH: its actions, each behind those that it waits for. At each turn the first is taken that isn't marked though all that
-- it waits for are.
use Rattle.std.specs.Prelude.{◌≡◌, ◌<◌, ℕ, zero, suc, Bool, true, false, not, ◌&&◌, List, [], ◌∷◌, map, length, replicate, set, slice_get, max}
use Rattle.std.specs.Prelude.{Option, Some, None, nat_eq, filter}
use Rattle.std.specs.List.{AllByRecursion, find, list_all, list_any}
use Rattle.wf_def.specs.ActionTree.{ActionTree, action_after, action_number}
use Rattle.wf_def.specs.AllActions.{has_number}

-- an action, and those that it waits for, by their numbers
pub record StepTree : Type 0 where
  pub number : ℕ
  pub after : List ℕ

-- marks by the numbers of actions; of a number without a place there is none
abbrev pub mark_in : Option Bool → Bool
mark_in None = false
mark_in (Some b) = b

abbrev pub is_marked : List Bool → ℕ → Bool
is_marked marks n = mark_in (slice_get marks n)

abbrev pub after_of : ActionTree → List ℕ
after_of a = map (λ e. e.number) (action_after a)

abbrev pub step_of : ActionTree → StepTree
step_of a = record { number = action_number a; after = after_of a }

abbrev pub is_ready : List Bool → ActionTree → Bool
is_ready marks a = not (is_marked marks (action_number a)) && list_all (is_marked marks) (after_of a)

-- the step that is taken, if any, and those behind it
abbrev pub step_then : Option ActionTree → (ActionTree → List StepTree) → List StepTree
step_then None rest = []
step_then (Some a) rest = step_of a ∷ rest a

abbrev pub steps_from : ℕ → List ActionTree → List Bool → List StepTree
steps_from zero graph marks = []
steps_from (suc turns) graph marks =
    step_then (find (is_ready marks) graph) (λ a. steps_from turns graph (set marks (action_number a) true))

-- one more than the greatest number of an action: so many marks are needed
abbrev pub size_of : List ActionTree → ℕ
size_of [] = 0
size_of (a ∷ as') = max (suc (action_number a)) (size_of as')

-- some `runAfter` names the action
abbrev pub is_named : List ActionTree → ℕ → Bool
is_named graph n = list_any (λ a. list_any (λ m. nat_eq m n) (after_of a)) graph

-- GRAPHS AS THEY ARE JUDGED: the steps, and the actions that no other waits for
pub record JudgedTree : Type 0 where
  pub size : ℕ
  pub steps : List StepTree
  pub ends : List ℕ

abbrev pub judged_of : List ActionTree → JudgedTree
judged_of graph = record {
  size = size_of graph;
  steps = steps_from (length graph) graph (replicate (size_of graph) false);
  ends = filter (λ n. not (is_named graph n)) (map action_number graph);
}

-- which are named, as marks

abbrev pub needs_marked : List ℕ → List Bool → List Bool
needs_marked [] marks = marks
needs_marked (n ∷ ns) marks = needs_marked ns (set marks n true)

abbrev pub all_named : List ActionTree → List Bool → List Bool
all_named [] marks = marks
all_named (a ∷ as') marks = all_named as' (needs_marked (after_of a) marks)

-- WHAT IS ASKED OF A GRAPH: each number stands once in it; and each action waits only for actions of the graph, along whose entries depths
-- fall.
abbrev pub StandApart : List ActionTree → Type 0
StandApart graph = AllByRecursion (λ a. find (has_number (action_number a)) graph ≡ Some a) graph

abbrev pub FallInside : List ActionTree → (ℕ → ℕ) → Type 0
FallInside graph depth =
    AllByRecursion (λ a. AllByRecursion (λ n. (list_any (has_number n) graph ≡ true) × (depth n < depth (action_number a))) (after_of a))
    graph
