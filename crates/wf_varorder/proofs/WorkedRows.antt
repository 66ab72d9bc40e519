-- The rules on two actions in worked definitions. A pair is told by the numbers of its actions.
use Prim.Native.String.{String}
use Rattle.std.proofs.Common.{◌≡◌, ℕ, List, [], ◌∷◌, Option, Some, None, refl}
use Rattle.std.specs.Prelude.{codes, pos, true, false}
use Rattle.wf_val.specs.ValueTree as value
use Rattle.wf_template.specs.ExprTree.{ExprTree, literal, call, expr_trees}
use Rattle.wf_template.specs.TemplateTree.{whole, plain}
use Rattle.wf_template.specs.DataTree.{DataTree, null, number, text, list, data_trees}
use Rattle.wf_template.specs.CondTree.{CondTree, holds}
use Rattle.wf_def.specs.ActionTree.{ActionTree, action, InitialTree, KindTree, compose, response, terminate, select, query, initialize}
use Rattle.wf_def.specs.ActionTree.{set_to}
use Rattle.wf_def.specs.ActionTree.{increment, scope, branch, switch, switch_else, foreach, until, ActionTrees, action_trees, no_actions}
use Rattle.wf_def.specs.ActionTree.{CaseTrees, no_cases, case_then}
use Rattle.wf_def.specs.DefTree.{DefTree}
use Rattle.wf_def.specs.declared.after.After.{After}
use Rattle.wf_def.specs.declared.sort.Sort.{Sort}
use Rattle.wf_varorder.specs.Least.{fault_of}
use Rattle.wf_varorder.specs.declared.rule.PairRule.{PairRule}

abbrev asked : String → ExprTree
asked k = call (codes "variables") (expr_trees (literal (value.text (codes k)) ∷ []))

abbrev one : KindTree
one = compose (number (pos 1))

abbrev reads : String → KindTree
reads k = compose (text (whole (asked k)))

abbrev sets : String → KindTree
sets k = set_to (codes k) null

abbrev yes : CondTree
yes = holds (plain (codes "true"))

abbrev reads_v : CondTree
reads_v = holds (whole (asked "v"))

abbrev after : ℕ → List After
after n = record { name = []; number = n; statuses = record { succeeded = true; failed = false; skipped = false; timed_out = false } } ∷ []

abbrev at : ℕ → String → List After → KindTree → ActionTree
at n pointer waits kind = action (codes pointer) n (codes pointer) waits kind []

abbrev tracking : ℕ → String → List After → KindTree → ActionTree
tracking n pointer waits kind = action (codes pointer) n (codes pointer) waits kind ((codes "p", text (whole (asked "v"))) ∷ [])

abbrev in_scope : List ActionTree → KindTree
in_scope as' = scope (action_trees as')

abbrev each : ℕ → List ActionTree → KindTree
each repetitions as' = foreach (list (data_trees (number (pos 1) ∷ []))) repetitions (action_trees as')

abbrev variable : String → InitialTree
variable k = record { name = codes k; sort = Sort.Int; value = None }

abbrev of : List ActionTree → DefTree
of as' = record { digest = []; parameters = []; given = []; triggers = []; top = action_trees as'; outputs = [] }

-- ---- V13: where 0 makes the variables v and w

abbrev pair : List ActionTree → Option (ℕ × ℕ)
pair as' =
    fault_of (of (at 0 "/actions/V" [] (initialize (variable "v" ∷ variable "w" ∷ [])) ∷ as')) PairRule.Variables

writers_beside : pair (at 1 "/actions/A" (after 0) (sets "v") ∷ at 2 "/actions/B" (after 0) (sets "v") ∷ []) ≡ Some (1, 2)
writers_beside = refl

writers_in_order : pair (at 1 "/actions/A" (after 0) (sets "v") ∷ at 2 "/actions/B" (after 1) (sets "v") ∷ []) ≡ None
writers_in_order = refl

writers_in_the_other_order : pair (at 1 "/actions/A" (after 2) (sets "v") ∷ at 2 "/actions/B" (after 0) (sets "v") ∷ []) ≡ None
writers_in_the_other_order = refl

writers_of_two : pair (at 1 "/actions/A" (after 0) (sets "v") ∷ at 2 "/actions/B" (after 0) (sets "w") ∷ []) ≡ None
writers_of_two = refl

reader_beside : pair (at 1 "/actions/A" (after 0) (reads "v") ∷ at 2 "/actions/B" (after 0) (sets "v") ∷ []) ≡ Some (1, 2)
reader_beside = refl

reader_behind : pair (at 1 "/actions/A" (after 2) (reads "v") ∷ at 2 "/actions/B" (after 0) (sets "v") ∷ []) ≡ None
reader_behind = refl

readers_beside : pair (at 1 "/actions/A" (after 0) (reads "v") ∷ at 2 "/actions/B" (after 0) (reads "v") ∷ []) ≡ None
readers_beside = refl

-- also what an action reads of each item
select_beside : pair (at 1 "/actions/A" (after 0) (select null (text (whole (asked "v")))) ∷ at 2 "/actions/B" (after 0) (sets "v") ∷ [])
    ≡ Some (1, 2)
select_beside = refl

query_beside : pair (at 1 "/actions/A" (after 0) (query null (whole (asked "v"))) ∷ at 2 "/actions/B" (after 0) (sets "v") ∷ [])
    ≡ Some (1, 2)
query_beside = refl

-- a later variable of an action that makes several
second_variable : pair (at 1 "/actions/A" [] (reads "w") ∷ []) ≡ Some (1, 0)
second_variable = refl

-- what increments reads and writes, and one action is no pair
increment_alone : pair (at 1 "/actions/A" (after 0) (increment (codes "v") (Some (text (whole (asked "v"))))) ∷ []) ≡ None
increment_alone = refl

increment_beside : pair (at 1 "/actions/A" (after 0) (increment (codes "v") None) ∷ at 2 "/actions/B" (after 0) (reads "v") ∷ [])
    ≡ Some (1, 2)
increment_beside = refl

-- the lesser pointer is told first, whoever writes and whatever the numbers are: `A-1` is below `A/actions/Z`
lesser_pointer : pair (at 1 "/actions/A" (after 0) (in_scope (at 2 "/actions/A/actions/Z" [] (sets "v") ∷ []))
    ∷ at 3 "/actions/A-1" (after 0) (sets "v") ∷ []) ≡ Some (3, 2)
lesser_pointer = refl

-- of several pairs the one that has the least first pointer, and of these the one that has the least second one
least_first : pair (at 1 "/actions/C" (after 0) (sets "v") ∷ at 2 "/actions/B" (after 0) (sets "v")
    ∷ at 3 "/actions/A" (after 0) (reads "v")
    ∷ []) ≡ Some (3, 2)
least_first = refl

least_second : pair (at 1 "/actions/A" (after 0) (sets "v") ∷ at 2 "/actions/C" (after 0) (reads "v")
    ∷ at 3 "/actions/B" (after 0) (reads "v")
    ∷ []) ≡ Some (1, 3)
least_second = refl

of_a_later_variable : pair (at 1 "/actions/B" (after 0) (sets "v") ∷ at 2 "/actions/C" (after 0) (reads "v")
    ∷ at 3 "/actions/A" (after 0) (sets "w") ∷ at 4 "/actions/D" (after 0) (reads "w") ∷ []) ≡ Some (3, 4)
of_a_later_variable = refl

-- in containers side by side, of whatever kind
in_two_scopes : pair (at 1 "/actions/S" (after 0) (in_scope (at 2 "/actions/S/actions/X" [] (sets "v") ∷ []))
    ∷ at 3 "/actions/T" (after 0) (in_scope (at 4 "/actions/T/actions/Y" [] (sets "v") ∷ [])) ∷ []) ≡ Some (2, 4)
in_two_scopes = refl

in_two_scopes_in_order : pair (at 1 "/actions/S" (after 0) (in_scope (at 2 "/actions/S/actions/X" [] (sets "v") ∷ []))
    ∷ at 3 "/actions/T" (after 1) (in_scope (at 4 "/actions/T/actions/Y" [] (sets "v") ∷ [])) ∷ []) ≡ None
in_two_scopes_in_order = refl

in_two_ifs : pair (
    at 1 "/actions/I" (after 0) (branch yes (action_trees (at 2 "/actions/I/actions/X" [] (sets "v") ∷ [])) no_actions)
    ∷ at 3 "/actions/J" (after 0) (branch yes no_actions (action_trees (at 4 "/actions/J/else/actions/Y" [] (sets "v") ∷ []))) ∷ [])
    ≡ Some (2, 4)
in_two_ifs = refl

-- in branches of one
in_both_branches : pair (at 1 "/actions/I" (after 0) (branch yes (action_trees (at 2 "/actions/I/actions/X" [] (sets "v") ∷ []))
    (action_trees (at 3 "/actions/I/else/actions/Y" [] (sets "v") ∷ []))) ∷ []) ≡ None
in_both_branches = refl

in_one_branch : pair (at 1 "/actions/I" (after 0) (branch yes no_actions
    (action_trees (at 2 "/actions/I/else/actions/X" [] (sets "v") ∷ at 3 "/actions/I/else/actions/Y" [] (sets "v") ∷ []))) ∷ [])
    ≡ Some (2, 3)
in_one_branch = refl

abbrev cases : CaseTrees
cases =
    case_then (codes "a") (value.text (codes "1")) (action_trees (at 2 "/actions/W/cases/a/actions/X" [] (sets "v") ∷ []))
    (case_then (codes "b") (value.text (codes "2")) (action_trees (at 3 "/actions/W/cases/b/actions/Y" [] (sets "v") ∷ [])) no_cases)

in_cases : pair (at 1 "/actions/W" (after 0) (switch (whole (asked "v")) cases) ∷ []) ≡ None
in_cases = refl

in_cases_and_default : pair (at 1 "/actions/W" (after 0) (switch_else (plain []) cases
    (action_trees (at 4 "/actions/W/default/actions/Z" [] (sets "v") ∷ []))) ∷ []) ≡ None
in_cases_and_default = refl

-- deep in different branches
deep_in_branches : pair (at 1 "/actions/I" (after 0) (branch yes
    (action_trees (at 2 "/actions/I/actions/S" [] (in_scope (at 3 "/actions/I/actions/S/actions/X" [] (sets "v") ∷ [])) ∷ []))
    (action_trees (at 4 "/actions/I/else/actions/L" [] (each 1 (at 5 "/actions/I/else/actions/L/actions/Y" []
    (sets "v") ∷ [])) ∷ []))) ∷ [])
    ≡ None
deep_in_branches = refl

-- What a container reads as it opens, and an Until as it is tested, has an order with what is written inside, and none with what is beside.
condition_round_a_writer : pair (at 1 "/actions/I" (after 0) (branch reads_v (action_trees (at 2 "/actions/I/actions/X" [] (sets "v") ∷ []))
    no_actions) ∷ []) ≡ None
condition_round_a_writer = refl

condition_beside_a_writer : pair (at 1 "/actions/I" (after 0) (branch reads_v no_actions no_actions)
    ∷ at 2 "/actions/X" (after 0) (sets "v") ∷ []) ≡ Some (1, 2)
condition_beside_a_writer = refl

expression_beside_a_writer : pair (at 1 "/actions/W" (after 0) (switch (whole (asked "v")) no_cases)
    ∷ at 2 "/actions/X" (after 0) (sets "v") ∷ []) ≡ Some (1, 2)
expression_beside_a_writer = refl

list_round_a_writer : pair (at 1 "/actions/L" (after 0) (foreach (text (whole (asked "v"))) 1
    (action_trees (at 2 "/actions/L/actions/X" [] (sets "v") ∷ []))) ∷ []) ≡ None
list_round_a_writer = refl

list_beside_a_writer : pair (at 1 "/actions/L" (after 0) (foreach (text (whole (asked "v"))) 1 no_actions)
    ∷ at 2 "/actions/X" (after 0) (sets "v") ∷ []) ≡ Some (1, 2)
list_beside_a_writer = refl

test_round_a_writer : pair (at 1 "/actions/U" (after 0) (until reads_v 60 false
    (action_trees (at 2 "/actions/U/actions/X" [] (sets "v") ∷ []))) ∷ []) ≡ None
test_round_a_writer = refl

test_beside_a_writer : pair (at 1 "/actions/U" (after 0) (until reads_v 60 false no_actions) ∷ at 2 "/actions/X" (after 0) (sets "v") ∷ [])
    ≡ Some (1, 2)
test_beside_a_writer = refl

test_in_a_container_of_a_writer : pair (at 1 "/actions/S" (after 0) (in_scope (
    at 2 "/actions/S/actions/U" [] (until reads_v 60 false no_actions) ∷ at 3 "/actions/S/actions/X" [] (sets "v") ∷ [])) ∷ [])
    ≡ Some (2, 3)
test_in_a_container_of_a_writer = refl

-- what a container tracks hasn't
tracked_round_a_writer : pair (tracking 1 "/actions/S" (after 0) (in_scope (at 2 "/actions/S/actions/X" [] (sets "v") ∷ [])) ∷ [])
    ≡ Some (1, 2)
tracked_round_a_writer = refl

tracked_behind_a_writer : pair (tracking 1 "/actions/S" (after 2) (in_scope []) ∷ at 2 "/actions/X" (after 0) (sets "v") ∷ []) ≡ None
tracked_behind_a_writer = refl

tracked_by_the_writer : pair (tracking 1 "/actions/X" (after 0) (sets "v") ∷ []) ≡ None
tracked_by_the_writer = refl

-- A writer in a Foreach whose iterations may go side by side, however few, at any depth, and whatever else is round it
abbrev in_loop : ℕ → Option (ℕ × ℕ)
in_loop repetitions = pair (at 1 "/actions/L" (after 0) (each repetitions (at 2 "/actions/L/actions/P" [] (sets "v") ∷ [])) ∷ [])

in_turn : in_loop 1 ≡ None
in_turn = refl

two_side_by_side : in_loop 2 ≡ Some (2, 2)
two_side_by_side = refl

fifty_side_by_side : in_loop 50 ≡ Some (2, 2)
fifty_side_by_side = refl

abbrev in_two_loops : ℕ → ℕ → Option (ℕ × ℕ)
in_two_loops outer inner =
    pair (at 1 "/actions/L" (after 0) (each outer (at 2 "/actions/L/actions/M" [] (each inner (
    at 3 "/actions/L/actions/M/actions/P" [] (sets "v") ∷ [])) ∷ [])) ∷ [])

both_in_turn : in_two_loops 1 1 ≡ None
both_in_turn = refl

outer_side_by_side : in_two_loops 20 1 ≡ Some (3, 3)
outer_side_by_side = refl

inner_side_by_side : in_two_loops 1 20 ≡ Some (3, 3)
inner_side_by_side = refl

until_in_turn : pair (at 1 "/actions/U" (after 0) (until yes 60 false (action_trees (at 2 "/actions/U/actions/P" [] (sets "v") ∷ []))) ∷ [])
    ≡ None
until_in_turn = refl

reader_side_by_side : pair (at 1 "/actions/X" (after 0) (sets "v")
    ∷ at 2 "/actions/L" (after 1) (each 20 (at 3 "/actions/L/actions/P" [] (reads "v") ∷ [])) ∷ []) ≡ None
reader_side_by_side = refl

unordered_in_turn : pair (at 1 "/actions/L" (after 0) (each 1 (
    at 2 "/actions/L/actions/P" [] (sets "v") ∷ at 3 "/actions/L/actions/Q" [] (sets "v") ∷ [])) ∷ []) ≡ Some (2, 3)
unordered_in_turn = refl

-- the pair of a writer with itself is one among others
itself_among_others : pair (at 1 "/actions/A" (after 0) (reads "v")
    ∷ at 2 "/actions/L" (after 0) (each 20 (at 3 "/actions/L/actions/P" [] (sets "v") ∷ [])) ∷ []) ≡ Some (1, 3)
itself_among_others = refl

-- ---- V15: the Terminate is told first

abbrev stop : KindTree
stop = terminate null

abbrev ended : List ActionTree → Option (ℕ × ℕ)
ended as' = fault_of (of as') PairRule.Terminates

end_beside : ended (at 0 "/actions/A" [] one ∷ at 1 "/actions/T" [] stop ∷ []) ≡ Some (1, 0)
end_beside = refl

end_beside_a_greater_pointer : ended (at 0 "/actions/Z" [] one ∷ at 1 "/actions/T" [] stop ∷ []) ≡ Some (1, 0)
end_beside_a_greater_pointer = refl

end_in_order : ended (at 0 "/actions/A" [] one ∷ at 1 "/actions/T" (after 0) stop ∷ at 2 "/actions/X" (after 1) one ∷ []) ≡ None
end_in_order = refl

end_alone : ended (at 0 "/actions/T" [] stop ∷ []) ≡ None
end_alone = refl

end_inside : ended (at 0 "/actions/S" [] (in_scope (at 1 "/actions/S/actions/T" [] stop ∷ [])) ∷ []) ≡ None
end_inside = refl

end_inside_beside : ended (at 0 "/actions/S" [] (in_scope (
    at 1 "/actions/S/actions/A" [] one ∷ at 2 "/actions/S/actions/T" [] stop ∷ [])) ∷ []) ≡ Some (2, 1)
end_inside_beside = refl

-- a container beside the Terminate, and what is in it
end_beside_a_container : ended (at 0 "/actions/S" [] (in_scope (at 1 "/actions/S/actions/A" [] one ∷ [])) ∷ at 2 "/actions/T" [] stop ∷ [])
    ≡ Some (2, 0)
end_beside_a_container = refl

end_in_the_other_branch : ended (at 0 "/actions/I" [] (branch yes (action_trees (at 1 "/actions/I/actions/T" [] stop ∷ []))
    (action_trees (at 2 "/actions/I/else/actions/A" [] one ∷ []))) ∷ []) ≡ None
end_in_the_other_branch = refl

ends_beside : ended (at 0 "/actions/T2" [] stop ∷ at 1 "/actions/T1" [] stop ∷ []) ≡ Some (1, 0)
ends_beside = refl

ends_in_both_branches : ended (at 0 "/actions/I" [] (branch yes (action_trees (at 1 "/actions/I/actions/T" [] stop ∷ []))
    (action_trees (at 2 "/actions/I/else/actions/U" [] stop ∷ []))) ∷ []) ≡ None
ends_in_both_branches = refl

no_end : ended (at 0 "/actions/A" [] one ∷ at 1 "/actions/B" [] (response null) ∷ []) ≡ None
no_end = refl

-- ---- V16: the lesser pointer is told first

abbrev answer : KindTree
answer = response null

abbrev answered : List ActionTree → Option (ℕ × ℕ)
answered as' = fault_of (of as') PairRule.Responses

answers_beside : answered (at 0 "/actions/Q" [] answer ∷ at 1 "/actions/P" [] answer ∷ []) ≡ Some (1, 0)
answers_beside = refl

answers_in_order : answered (at 0 "/actions/P" [] answer ∷ at 1 "/actions/Q" (after 0) answer ∷ []) ≡ None
answers_in_order = refl

answers_in_both_branches : answered (at 0 "/actions/I" [] (branch yes (action_trees (at 1 "/actions/I/actions/P" [] answer ∷ []))
    (action_trees (at 2 "/actions/I/else/actions/Q" [] answer ∷ []))) ∷ []) ≡ None
answers_in_both_branches = refl

answer_beside_others : answered (at 0 "/actions/A" [] one ∷ at 1 "/actions/P" [] answer ∷ at 2 "/actions/T" [] stop ∷ []) ≡ None
answer_beside_others = refl

answer_inside_and_beside : answered (at 0 "/actions/S" [] (in_scope (at 1 "/actions/S/actions/P" [] answer ∷ []))
    ∷ at 2 "/actions/R" [] answer ∷ []) ≡ Some (2, 1)
answer_inside_and_beside = refl

answers_of_three : answered (at 0 "/actions/R" [] answer ∷ at 1 "/actions/Q" (after 0) answer ∷ at 2 "/actions/P" (after 0) answer ∷ [])
    ≡ Some (2, 1)
answers_of_three = refl
