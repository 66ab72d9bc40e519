-- The order of a worked definition. Names are the numbers:
--   0; a Scope 1 after 0, of 2, and 3 after 2; an If 4 after 1, of 5, and otherwise of 6 and a Foreach 7 of 8, after 6;
--   a Switch 9 after 0, of the cases 10 and 11, and otherwise of an If 12 of 13; 14, which nothing waits for and which waits for nothing.
use Rattle.std.proofs.Common.{◌≡◌, ℕ, List, [], ◌∷◌, true, false, Some, None, length, nat_eq, refl, arith}
use Rattle.std.proofs.lemmas.Bool.{eqb-true}
use Rattle.wf_def.specs.Definition.{Succeeded, Need, InTurn, AtMost, Leaf, Scope, Choice, Foreach, Until, no_branch, branch, Graph, done, add}
use Rattle.wf_def.specs.Address.{address, starts}
use Rattle.wf_def.proofs.Basics.{and_in}
use Rattle.wf_order.specs.Indexes.{HaveSameIndexes, loops_round}
use Rattle.wf_order.specs.Order.{around, stand, up}
use Rattle.wf_order.specs.Table.{OrderTree, order_of, before, contains, exclusive, redo}

abbrev after_one : ℕ → List Need
after_one n = record { name = n; listed = Succeeded ∷ [] } ∷ []

abbrev leaf : ℕ → List Need → Graph → Graph
leaf n needs rest = add n needs Leaf rest

abbrev yes-branch : Graph
yes-branch = leaf 5 [] done

abbrev no-branch : Graph
no-branch = leaf 6 [] (add 7 (after_one 6) (Foreach InTurn (leaf 8 [] done)) done)

abbrev default : Graph
default = add 12 [] (Choice (branch (leaf 13 [] done) (branch done no_branch))) done

abbrev cases : Graph → Graph
cases rest =
    add 9 (after_one 0) (Choice (branch (leaf 10 [] done) (branch (leaf 11 [] done) (branch default no_branch)))) rest

abbrev worked : Graph
worked =
    leaf 0 []
    (add 1 (after_one 0) (Scope (leaf 2 [] (leaf 3 (after_one 2) done)))
    (add 4 (after_one 1) (Choice (branch yes-branch (branch no-branch no_branch)))
    (cases (leaf 14 [] done))))

abbrev order : OrderTree
order = order_of 15 worked

-- where actions stand
around-top : around worked 14 ≡ []
around-top = refl

around-scope : around worked 3 ≡ 1 ∷ []
around-scope = refl

around-two : around worked 8 ≡ 4 ∷ 7 ∷ []
around-two = refl

around-container : around worked 7 ≡ 4 ∷ []
around-container = refl

around-no_action : around worked 15 ≡ []
around-no_action = refl

up-two : up worked 8 ≡ 4 ∷ 7 ∷ 8 ∷ []
up-two = refl

stand-top : stand None worked 0 ≡ None
stand-top = refl

stand-in_a_scope : stand None worked 2 ≡ None
stand-in_a_scope = refl

stand-yes : stand None worked 5 ≡ Some (4, 1)
stand-yes = refl

stand-no : stand None worked 6 ≡ Some (4, 2)
stand-no = refl

stand-container_in_a_branch : stand None worked 7 ≡ Some (4, 2)
stand-container_in_a_branch = refl

stand-in_a_loop_in_a_branch : stand None worked 8 ≡ None
stand-in_a_loop_in_a_branch = refl

stand-first_case : stand None worked 10 ≡ Some (9, 1)
stand-first_case = refl

stand-second_case : stand None worked 11 ≡ Some (9, 2)
stand-second_case = refl

stand-default : stand None worked 12 ≡ Some (9, 3)
stand-default = refl

stand-inner : stand None worked 13 ≡ Some (12, 1)
stand-inner = refl

-- before
before-next : before order 0 1 ≡ true
before-next = refl

before-not_back : before order 1 0 ≡ false
before-not_back = refl

before-over_two : before order 0 4 ≡ true
before-over_two = refl

before-what_a_container_holds : before order 0 2 ≡ true
before-what_a_container_holds = refl

before-what_inner_containers_hold : before order 0 8 ≡ true
before-what_inner_containers_hold = refl

before-out_of_a_container : before order 2 4 ≡ true
before-out_of_a_container = refl

before-from_one_container_into_another : before order 3 5 ≡ true
before-from_one_container_into_another = refl

before-inside : before order 2 3 ≡ true
before-inside = refl

before-inside_not_back : before order 3 2 ≡ false
before-inside_not_back = refl

before-into_a_loop : before order 6 8 ≡ true
before-into_a_loop = refl

before-not_its_container : before order 1 2 ≡ false
before-not_its_container = refl

before-not_the_container_after_it : before order 3 1 ≡ false
before-not_the_container_after_it = refl

before-not_of_branches : before order 5 6 ≡ false
before-not_of_branches = refl

before-not_side_by_side : before order 4 9 ≡ false
before-not_side_by_side = refl

before-not_in_containers_side_by_side : before order 2 10 ≡ false
before-not_in_containers_side_by_side = refl

before-not_itself : before order 0 0 ≡ false
before-not_itself = refl

before-not_apart : before order 14 0 ≡ false
before-not_apart = refl

before-not_what_waits_for_nothing : before order 0 14 ≡ false
before-not_what_waits_for_nothing = refl

before-no_action : before order 0 15 ≡ false
before-no_action = refl

before-no_action_first : before order 15 1 ≡ false
before-no_action_first = refl

-- contains
contains-scope : contains order 1 2 ≡ true
contains-scope = refl

contains-yes : contains order 4 5 ≡ true
contains-yes = refl

contains-no : contains order 4 6 ≡ true
contains-no = refl

contains-deeper : contains order 4 8 ≡ true
contains-deeper = refl

contains-loop : contains order 7 8 ≡ true
contains-loop = refl

contains-default : contains order 9 13 ≡ true
contains-default = refl

contains-not_back : contains order 2 1 ≡ false
contains-not_back = refl

contains-not_itself : contains order 1 1 ≡ false
contains-not_itself = refl

contains-not_another : contains order 1 5 ≡ false
contains-not_another = refl

contains-no_action : contains order 4 15 ≡ false
contains-no_action = refl

-- exclusive
exclusive-branches : exclusive order 5 6 ≡ true
exclusive-branches = refl

exclusive-the_other_way_round : exclusive order 6 5 ≡ true
exclusive-the_other_way_round = refl

exclusive-deeper : exclusive order 5 8 ≡ true
exclusive-deeper = refl

exclusive-cases : exclusive order 10 11 ≡ true
exclusive-cases = refl

exclusive-case_and_default : exclusive order 10 13 ≡ true
exclusive-case_and_default = refl

exclusive-not_in_one_branch : exclusive order 6 8 ≡ false
exclusive-not_in_one_branch = refl

exclusive-not_itself : exclusive order 5 5 ≡ false
exclusive-not_itself = refl

exclusive-not_its_container : exclusive order 4 5 ≡ false
exclusive-not_its_container = refl

exclusive-not_in_a_scope : exclusive order 2 3 ≡ false
exclusive-not_in_a_scope = refl

exclusive-not_of_an_if_and_a_switch : exclusive order 5 11 ≡ false
exclusive-not_of_an_if_and_a_switch = refl

exclusive-not_of_a_switch_and_an_if : exclusive order 6 10 ≡ false
exclusive-not_of_a_switch_and_an_if = refl

exclusive-no_action : exclusive order 5 15 ≡ false
exclusive-no_action = refl

-- redone
redo-itself : redo order 1 1 ≡ true
redo-itself = refl

redo-inside : redo order 1 3 ≡ true
redo-inside = refl

redo-behind : redo order 1 8 ≡ true
redo-behind = refl

redo-behind_in_its_graph : redo order 2 3 ≡ true
redo-behind_in_its_graph = refl

redo-behind_its_container : redo order 2 5 ≡ true
redo-behind_its_container = refl

redo-not_before : redo order 3 2 ≡ false
redo-not_before = refl

redo-not_its_container : redo order 3 1 ≡ false
redo-not_its_container = refl

redo-not_the_other_branch : redo order 5 6 ≡ false
redo-not_the_other_branch = refl

redo-not_side_by_side : redo order 1 9 ≡ false
redo-not_side_by_side = refl

-- Loops round two actions: a Foreach 20 of 21, of a Scope 22 with an Until 23 of 24, and 25 after 24, and of an If 26 of 27, and otherwise
-- of a Foreach 28 of 29; and 30 outside.
abbrev in_until : Graph
in_until = leaf 24 [] (leaf 25 (after_one 24) done)

abbrev in_if : Graph
in_if = add 26 [] (Choice (branch (leaf 27 [] done) (branch (add 28 [] (Foreach InTurn (leaf 29 [] done)) done) no_branch))) done

abbrev looped : Graph
looped = add 20 [] (Foreach (AtMost 20) (leaf 21 [] (add 22 [] (Scope (add 23 [] (Until 60 in_until) done)) in_if))) (leaf 30 [] done)

loops-two : loops_round looped 24 25 ≡ 2
loops-two = refl

loops-of_itself : loops_round looped 24 24 ≡ 2
loops-of_itself = refl

loops-one_alone_is_deeper : loops_round looped 21 24 ≡ 1
loops-one_alone_is_deeper = refl

loops-the_other_way_round : loops_round looped 24 21 ≡ 1
loops-the_other_way_round = refl

loops-not_the_loop_itself : loops_round looped 23 24 ≡ 1
loops-not_the_loop_itself = refl

loops-two_inner_loops : loops_round looped 25 29 ≡ 1
loops-two_inner_loops = refl

loops-two_branches : loops_round looped 27 29 ≡ 1
loops-two_branches = refl

loops-in_one_branch : loops_round looped 28 29 ≡ 1
loops-in_one_branch = refl

loops-deep_in_one_branch : loops_round looped 29 29 ≡ 2
loops-deep_in_one_branch = refl

loops-top_and_inside : loops_round looped 20 24 ≡ 0
loops-top_and_inside = refl

loops-outside : loops_round looped 24 30 ≡ 0
loops-outside = refl

loops-no_action : loops_round looped 24 31 ≡ 0
loops-no_action = refl

-- the same indexes, where one address has a further one, and where they differ in a loop that is round one alone
same_indexes-all : HaveSameIndexes looped (address 24 (3 ∷ 5 ∷ [])) (address 25 (3 ∷ 5 ∷ []))
same_indexes-all = record { indexes = 3 ∷ 5 ∷ []; each_loop = refl; of_one = refl; of_other = refl }

same_indexes-further : HaveSameIndexes looped (address 21 (3 ∷ [])) (address 24 (3 ∷ 5 ∷ []))
same_indexes-further = record { indexes = 3 ∷ []; each_loop = refl; of_one = refl; of_other = refl }

same_indexes-apart : HaveSameIndexes looped (address 24 (3 ∷ 5 ∷ [])) (address 29 (3 ∷ 7 ∷ []))
same_indexes-apart = record { indexes = 3 ∷ []; each_loop = refl; of_one = refl; of_other = refl }

-- but not where they differ in a loop that is round both, or lack its index
same_indexes-not_another_turn : HaveSameIndexes looped (address 21 (3 ∷ [])) (address 24 (4 ∷ 5 ∷ [])) → ⊥
same_indexes-not_another_turn s = differ s.indexes s.each_loop s.of_one s.of_other
  where
    three_four : (a : ℕ) → nat_eq a 3 ≡ true → nat_eq a 4 ≡ true → ⊥
    three_four a one other = let three = eqb-true a 3 one in let four = eqb-true a 4 other in absurd (omega (arith, three, four))

    differ : (k : List ℕ) → length k ≡ 1 → starts k (3 ∷ []) ≡ true → starts k (4 ∷ 5 ∷ []) ≡ true → ⊥
    differ [] count one other = absurd (cc)
    differ (a ∷ []) count one other = three_four a (and_in (nat_eq a 3) true one).0 (and_in (nat_eq a 4) true other).0
    differ (a ∷ b ∷ k) count one other = absurd (cc)

same_indexes-not_without : HaveSameIndexes looped (address 24 []) (address 25 (3 ∷ 5 ∷ [])) → ⊥
same_indexes-not_without s = none s.indexes s.each_loop s.of_one
  where
    none : (k : List ℕ) → length k ≡ 2 → starts k [] ≡ true → ⊥
    none [] count one = absurd (cc)
    none (a ∷ k) count one = absurd (cc)

-- Actions that both stand deep in different branches: an If 0 of a Scope 1 of 2 and 3, and otherwise of a Foreach 4 of 5; after it a
-- Switch 6 with the case of an If 7 of 8, and otherwise an Until 9 of a Scope 10 of 11.
abbrev deep : Graph
deep =
    add 0 [] (Choice (
    branch (add 1 [] (Scope (leaf 2 [] (leaf 3 [] done))) done)
    (branch (add 4 [] (Foreach InTurn (leaf 5 [] done)) done) no_branch)))
    (add 6 (after_one 0) (Choice (
    branch (add 7 [] (Choice (branch (leaf 8 [] done) no_branch)) done)
    (branch (add 9 [] (Until 60 (add 10 [] (Scope (leaf 11 [] done)) done)) done) no_branch))) done)

abbrev deep_order : OrderTree
deep_order = order_of 12 deep

exclusive-both_deep : exclusive deep_order 2 5 ≡ true
exclusive-both_deep = refl

exclusive-both_deep_the_other_way_round : exclusive deep_order 5 2 ≡ true
exclusive-both_deep_the_other_way_round = refl

exclusive-deeper_on_one_side : exclusive deep_order 1 5 ≡ true
exclusive-deeper_on_one_side = refl

exclusive-deeper_on_the_other_side : exclusive deep_order 2 4 ≡ true
exclusive-deeper_on_the_other_side = refl

exclusive-deep_in_a_case_and_the_default : exclusive deep_order 8 11 ≡ true
exclusive-deep_in_a_case_and_the_default = refl

exclusive-deep_in_the_default_and_a_case : exclusive deep_order 10 8 ≡ true
exclusive-deep_in_the_default_and_a_case = refl

exclusive-not_deep_in_one_branch : exclusive deep_order 2 3 ≡ false
exclusive-not_deep_in_one_branch = refl

exclusive-not_deep_in_two_choices : exclusive deep_order 2 11 ≡ false
exclusive-not_deep_in_two_choices = refl

exclusive-not_deep_and_its_container : exclusive deep_order 0 5 ≡ false
exclusive-not_deep_and_its_container = refl

before-deep_in_two_choices : before deep_order 5 11 ≡ true
before-deep_in_two_choices = refl

before-not_deep_in_branches : before deep_order 2 5 ≡ false
before-not_deep_in_branches = refl
