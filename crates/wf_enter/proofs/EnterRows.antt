-- Worked rows of which graph a container enters, and of an iteration that begins.
use Rattle.std.proofs.Common.{◌≡◌, ℕ, Bool, true, false, List, [], ◌∷◌, Option, Some, None, refl}
use Rattle.wf_layers.specs.Address.{address}
use Rattle.wf_layers.specs.Definition.{InTurn, AtMost}
use Rattle.wf_events.specs.OpenAt.{OpenAt}
use Rattle.wf_events.specs.Plan.{BranchTree, PlanTree, choice, foreach, leaf, scope, until}
use Rattle.wf_enter.specs.Begun.{begun_in, counts_at, counts_turns}
use Rattle.wf_enter.specs.Entered.{graph_of, is_at}
use Rattle.wf_enter.specs.Graphs.{opened_at, opened_numbers, passed_at, turned_at, turned_numbers}

-- a choice of two branches: 1 with 2 in it, and 3
abbrev branches : List BranchTree
branches = record { own = 1 ∷ []; all = 1 ∷ 2 ∷ [] } ∷ record { own = 3 ∷ []; all = 3 ∷ [] } ∷ []

a_scope_enters_its_own : opened_numbers (scope (4 ∷ 5 ∷ [])) 0 ≡ Some (4 ∷ 5 ∷ [])
a_scope_enters_its_own = refl

an_empty_scope_enters_one : opened_numbers (scope []) 7 ≡ Some []
an_empty_scope_enters_one = refl

the_first_branch : opened_numbers (choice branches) 1 ≡ Some (1 ∷ [])
the_first_branch = refl

the_second_branch : opened_numbers (choice branches) 2 ≡ Some (3 ∷ [])
the_second_branch = refl

zero_is_no_branch : opened_numbers (choice branches) 0 ≡ None
zero_is_no_branch = refl

nor_is_one_past_the_last : opened_numbers (choice branches) 3 ≡ None
nor_is_one_past_the_last = refl

a_foreach_enters_none_as_it_opens : opened_numbers (foreach InTurn (4 ∷ [])) 1 ≡ None
a_foreach_enters_none_as_it_opens = refl

nor_does_an_until : opened_numbers (until 3 (4 ∷ [])) 1 ≡ None
nor_does_an_until = refl

a_leaf_enters_none : opened_numbers leaf 1 ≡ None
a_leaf_enters_none = refl

an_iteration_of_a_foreach : turned_numbers (foreach (AtMost 2) (4 ∷ 6 ∷ [])) ≡ Some (4 ∷ 6 ∷ [])
an_iteration_of_a_foreach = refl

an_iteration_of_an_until : turned_numbers (until 3 []) ≡ Some []
an_iteration_of_an_until = refl

a_scope_has_no_iterations : turned_numbers (scope (4 ∷ [])) ≡ None
a_scope_has_no_iterations = refl

nor_has_a_choice : turned_numbers (choice branches) ≡ None
nor_has_a_choice = refl

-- a plan whose action 0 is the choice
abbrev plan : PlanTree
plan = record {
  top = 0 ∷ [];
  entries = Some (record { after = []; shape = choice branches; block = 0 ∷ 1 ∷ 2 ∷ 3 ∷ [] }) ∷ None ∷ [];
  followers = [];
  holders = [];
}

of_a_plan : opened_at plan 0 2 ≡ Some (3 ∷ [])
of_a_plan = refl

the_first_is_passed_over : passed_at plan 0 2 ≡ 1 ∷ 2 ∷ []
the_first_is_passed_over = refl

all_are_passed_over : passed_at plan 0 9 ≡ 1 ∷ 2 ∷ 3 ∷ []
all_are_passed_over = refl

what_a_plan_has_not_enters_none : opened_at plan 1 1 ≡ None
what_a_plan_has_not_enters_none = refl

past_its_end_too : turned_at plan 5 ≡ None
past_its_end_too = refl

-- ---- where a graph goes

by_its_container : graph_of 3 (4 ∷ []) (Some (7 ∷ 8 ∷ [])) ≡ Some (record { action = 3; at = 4 ∷ [] })
by_its_container = refl

none_goes_nowhere : graph_of 3 (4 ∷ []) None ≡ None
none_goes_nowhere = refl

there : is_at (Some (record { action = 3; at = 4 ∷ [] })) (address 3 (4 ∷ [])) ≡ true
there = refl

not_in_another_iteration : is_at (Some (record { action = 3; at = 4 ∷ [] })) (address 3 (5 ∷ [])) ≡ false
not_in_another_iteration = refl

-- ---- an iteration

it_counts : counts_turns (foreach InTurn (4 ∷ [])) ≡ true
it_counts = refl

not_of_an_empty_graph : counts_turns (foreach (AtMost 2) []) ≡ false
not_of_an_empty_graph = refl

not_of_an_until : counts_turns (until 3 (4 ∷ [])) ≡ false
not_of_an_until = refl

nor_of_a_choice : counts_at plan 0 ≡ false
nor_of_a_choice = refl

abbrev loop : ℕ → Option Bool → ℕ → OpenAt ℕ Bool
loop next test unfinished =
    record { instance = record { action = 2; at = 6 ∷ [] }; decision = 9; next = next; test = test; unfinished = unfinished }

the_next_one_begins : begun_in (record { action = 2; at = 6 ∷ [] }) true (loop 3 None 1 ∷ []) ≡ loop 4 None 2 ∷ []
the_next_one_begins = refl

the_last_test_goes : begun_in (record { action = 2; at = 6 ∷ [] }) false (loop 3 (Some false) 0 ∷ []) ≡ loop 4 None 0 ∷ []
the_last_test_goes = refl

no_other_begins : begun_in (record { action = 2; at = 5 ∷ [] }) true (loop 3 None 1 ∷ []) ≡ loop 3 None 1 ∷ []
no_other_begins = refl
