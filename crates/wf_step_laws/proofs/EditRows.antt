-- Worked rows of what is edited.
use Rattle.std.proofs.Common.{◌≡◌, ℕ, true, false, [], Option, Some, None, refl}
use Rattle.wf_layers.specs.Definition.{Kind, Leaf, Scope, Choice, Foreach, Until, InTurn, AtMost, no_branch, branch, Graph, done, add}
use Rattle.wf_step_laws.specs.Edits.{has_own_of, is_foreach, opened_graph, size_of, turned_graph}

abbrev two_actions : Graph
two_actions = add 3 [] Leaf (add 4 [] (Scope (add 5 [] Leaf done)) done)

abbrev one_action : Graph
one_action = add 6 [] Leaf done

-- a decision that is the number of a branch
abbrev opens : Kind → ℕ → Option Graph
opens = opened_graph (λ (n : ℕ). n)

scope_enters_its_graph : opens (Scope two_actions) 0 ≡ Some two_actions
scope_enters_its_graph = refl

first_branch : opens (Choice (branch two_actions (branch one_action no_branch))) 1 ≡ Some two_actions
first_branch = refl

second_branch : opens (Choice (branch two_actions (branch one_action no_branch))) 2 ≡ Some one_action
second_branch = refl

no_such_branch : opens (Choice (branch two_actions (branch one_action no_branch))) 3 ≡ None
no_such_branch = refl

branch_zero_is_none : opens (Choice (branch two_actions no_branch)) 0 ≡ None
branch_zero_is_none = refl

a_loop_enters_none_as_it_opens : opens (Foreach InTurn two_actions) 1 ≡ None
a_loop_enters_none_as_it_opens = refl

an_until_enters_none_as_it_opens : opens (Until 2 two_actions) 1 ≡ None
an_until_enters_none_as_it_opens = refl

a_leaf_enters_none : opens Leaf 1 ≡ None
a_leaf_enters_none = refl

an_iteration_enters_the_graph : turned_graph (Foreach (AtMost 2) two_actions) ≡ Some two_actions
an_iteration_enters_the_graph = refl

so_does_an_untils : turned_graph (Until 2 one_action) ≡ Some one_action
so_does_an_untils = refl

a_scope_has_no_iteration : turned_graph (Scope one_action) ≡ None
a_scope_has_no_iteration = refl

own_actions_alone : has_own_of (Some two_actions) 4 ≡ true
own_actions_alone = refl

inner_ones_are_none : has_own_of (Some two_actions) 5 ≡ false
inner_ones_are_none = refl

no_graph_has_none : has_own_of None 3 ≡ false
no_graph_has_none = refl

own_actions_are_counted : size_of (Some two_actions) ≡ 2
own_actions_are_counted = refl

no_graph_has_size_zero : size_of None ≡ 0
no_graph_has_size_zero = refl

a_foreach_is_one : is_foreach (Some (Foreach InTurn one_action)) ≡ true
a_foreach_is_one = refl

an_until_is_none : is_foreach (Some (Until 2 one_action)) ≡ false
an_until_is_none = refl
