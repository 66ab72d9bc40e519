-- Worked definitions for the rules on names at every place that an expression may stand at, V9, V10, V14 and V18 to V20; the types of
-- parameters; and loops in loops.
use Prim.Native.String.{String}
use Rattle.std.proofs.Common.{◌≡◌, List, [], ◌∷◌, Bool, true, false, map, Option, Some, None, refl}
use Rattle.std.specs.Prelude.{codes, pos}
use Rattle.wf_val.specs.ValueTree as value
use Rattle.wf_template.specs.ExprTree.{ExprTree}
use Rattle.wf_template.specs.DataTree.{null}
use Rattle.wf_varorder.specs.ActionTree.{ActionTree, KindTree, response, terminate, branch, no_actions, action_trees}
use Rattle.wf_varorder.specs.DefTree.{DefTree}
use Rattle.wf_varorder.specs.Sort.{Sort}
use Rattle.wf_varorder.specs.RuleFault.{RuleFault}
use Rattle.wf_rules.specs.Broken.{broken_of}
use Rattle.wf_varorder.specs.Sorts.{has_sort}
use Rattle.wf_rules.proofs.RowWords.{after, asked, asks, at, at_inputs, at_items, at_test, composes, each, each_is, everywhere}
use Rattle.wf_rules.proofs.RowWords.{fault, in_scope, in_tracked, of, of_kinds, one, some, told_of, truth, turns, yes}

-- the places of A that an expression may stand at, where A waits for nothing and where it waits for the action of number 1
abbrev anywhere : ExprTree → List ActionTree
anywhere e = everywhere "/actions/A" [] e

abbrev behind : ExprTree → List ActionTree
behind e = everywhere "/actions/A" (after 1) e

abbrev alone : ActionTree → DefTree
alone a = of (a ∷ [])

-- ---- V9

names_none : told_of alone (anywhere (asked "body" "Z")) ≡ each_is (fault 9 "/actions/A") (anywhere (asked "body" "Z"))
names_none = refl

results_of_none : told_of alone (anywhere (asked "result" "Z")) ≡ each_is (fault 9 "/actions/A") (anywhere (asked "result" "Z"))
results_of_none = refl

abbrev beside_one : ActionTree → DefTree
beside_one a = of (a ∷ at "B" 1 "/actions/B" [] one ∷ [])

names_unordered : told_of beside_one (anywhere (asked "outputs" "B")) ≡ each_is (fault 9 "/actions/A") (anywhere (asked "outputs" "B"))
names_unordered = refl

names_behind : told_of beside_one (behind (asked "outputs" "B")) ≡ each_is None (behind (asked "outputs" "B"))
names_behind = refl

-- ---- V10

abbrev with_p : DefTree → DefTree
with_p d = record d { parameters = record { name = codes "p"; sort = Sort.Int; default = None; allowed = None } ∷ [] }

undeclared_everywhere : told_of (λ a. with_p (alone a)) (anywhere (asked "parameters" "q"))
    ≡ each_is (fault 10 "/actions/A") (anywhere (asked "parameters" "q"))
undeclared_everywhere = refl

declared_everywhere : told_of (λ a. with_p (alone a)) (anywhere (asked "parameters" "p")) ≡ each_is None (anywhere (asked "parameters" "p"))
declared_everywhere = refl

-- the types of parameters, each with a value of every type
abbrev values : List value.ValueTree
values =
    value.null ∷ value.boolean true ∷ value.number (pos 1) ∷ value.text (codes "1") ∷ value.list value.no_values
    ∷ value.object value.no_members ∷ []

abbrev of_sorts : (Sort → List Bool) → List (List Bool)
of_sorts f = map f (Sort.Bool ∷ Sort.Int ∷ Sort.Text ∷ Sort.List ∷ Sort.Obj ∷ [])

types_of_values : of_sorts (λ sort. map (has_sort sort) values)
    ≡ (false ∷ true ∷ false ∷ false ∷ false ∷ false ∷ [])
    ∷ (false ∷ false ∷ true ∷ false ∷ false ∷ false ∷ [])
    ∷ (false ∷ false ∷ false ∷ true ∷ false ∷ false ∷ [])
    ∷ (false ∷ false ∷ false ∷ false ∷ true ∷ false ∷ [])
    ∷ (false ∷ false ∷ false ∷ false ∷ false ∷ true ∷ []) ∷ []
types_of_values = refl

abbrev p_of : Sort → Option value.ValueTree → Option (List value.ValueTree) → Option RuleFault
p_of sort default allowed = broken_of (record (of []) {
  parameters = record { name = codes "p"; sort = sort; default = default; allowed = allowed } ∷ [];
})

abbrev wrong : Option RuleFault
wrong = fault 10 "/parameters/p"

-- a default, of each type; null is one, and of none of the types
defaults_of_an_int : map (λ v. p_of Sort.Int (Some v) None) values ≡ wrong ∷ wrong ∷ None ∷ wrong ∷ wrong ∷ wrong ∷ []
defaults_of_an_int = refl

null_defaults : map (λ sort. p_of sort (Some value.null) None) (Sort.Bool ∷ Sort.Int ∷ Sort.Text ∷ Sort.List ∷ Sort.Obj ∷ [])
    ≡ wrong ∷ wrong ∷ wrong ∷ wrong ∷ wrong ∷ []
null_defaults = refl

-- allowed values: each of them
abbrev two : value.ValueTree
two = value.number (pos 2)

allowed_first_of_another : p_of Sort.Int None (Some (value.text [] ∷ two ∷ [])) ≡ wrong
allowed_first_of_another = refl

allowed_second_of_three : p_of Sort.Int None (Some (two ∷ value.null ∷ two ∷ [])) ≡ wrong
allowed_second_of_three = refl

allowed_last_of_another : p_of Sort.Int None (Some (two ∷ two ∷ value.boolean true ∷ [])) ≡ wrong
allowed_last_of_another = refl

-- the default needn't be one of them, and is looked at beside them
default_beside_allowed : p_of Sort.Int (Some (value.number (pos 1))) (Some (two ∷ [])) ≡ None
default_beside_allowed = refl

default_wrong_beside_allowed : p_of Sort.Int (Some value.null) (Some (two ∷ [])) ≡ wrong
default_wrong_beside_allowed = refl

-- ---- V14: `item` stands at what is asked of each item, and anywhere in a Foreach

item_at_inputs : told_of alone (of_kinds "/actions/A" [] (at_inputs (asks "item")))
    ≡ each_is (fault 14 "/actions/A") (of_kinds "/actions/A" [] (at_inputs (asks "item")))
item_at_inputs = refl

item_at_items : told_of alone (of_kinds "/actions/A" [] (at_items (asks "item"))) ≡ None ∷ None ∷ []
item_at_items = refl

item_at_a_test : told_of alone (of_kinds "/actions/A" [] (at_test (asks "item"))) ≡ fault 14 "/actions/A" ∷ []
item_at_a_test = refl

-- also where it is the tracked property of a Select or a Query
item_in_tracked : told_of alone (in_tracked "/actions/A" [] (asks "item"))
    ≡ each_is (fault 14 "/actions/A") (in_tracked "/actions/A" [] (asks "item"))
item_in_tracked = refl

abbrev in_a_foreach : ActionTree → DefTree
in_a_foreach a = of (at "L" 1 "/actions/L" [] (each some (a ∷ [])) ∷ [])

-- but what ends a run or answers may not stand there, nor what initialises a variable, which other rules say
abbrev in_l : ExprTree → List ActionTree
in_l e = everywhere "/actions/L/actions/A" [] e

abbrev in_a_loop : String → List (Option RuleFault)
in_a_loop pointer =
    None ∷ None ∷ None ∷ fault 17 pointer ∷ fault 17 pointer ∷ None ∷ None ∷ None ∷ None ∷ None ∷ fault 11 pointer ∷ None ∷ None ∷ None
    ∷ None ∷ None ∷ None ∷ None ∷ None ∷ None ∷ None ∷ None ∷ None ∷ []

item_in_a_foreach : told_of in_a_foreach (in_l (asks "item")) ≡ in_a_loop "/actions/L/actions/A"
item_in_a_foreach = refl

items_in_a_foreach : told_of in_a_foreach (in_l (asked "items" "L")) ≡ in_a_loop "/actions/L/actions/A"
items_in_a_foreach = refl

items_outside : told_of (λ a. of (a ∷ at "L" 1 "/actions/L" [] (each some []) ∷ [])) (behind (asked "items" "L"))
    ≡ each_is (fault 14 "/actions/A") (behind (asked "items" "L"))
items_outside = refl

abbrev in_an_until : ActionTree → DefTree
in_an_until a = of (at "U" 1 "/actions/U" [] (turns yes (a ∷ [])) ∷ [])

abbrev in_u : ExprTree → List ActionTree
in_u e = everywhere "/actions/U/actions/A" [] e

index_in_an_until : told_of in_an_until (in_u (asked "iterationIndexes" "U")) ≡ in_a_loop "/actions/U/actions/A"
index_in_an_until = refl

index_outside : told_of (λ a. of (a ∷ at "U" 1 "/actions/U" [] (turns yes []) ∷ [])) (behind (asked "iterationIndexes" "U"))
    ≡ each_is (fault 14 "/actions/A") (behind (asked "iterationIndexes" "U"))
index_outside = refl

-- the index of an inner Until isn't seen by the expression of the outer
inner_index : broken_of (of (at "U" 0 "/actions/U" [] (turns (truth (asked "iterationIndexes" "T"))
    (at "T" 1 "/actions/U/actions/T" [] (turns yes []) ∷ [])) ∷ [])) ≡ fault 14 "/actions/U"
inner_index = refl

outer_index : broken_of (of (at "U" 0 "/actions/U" [] (turns yes
    (at "T" 1 "/actions/U/actions/T" [] (turns (truth (asked "iterationIndexes" "U")) []) ∷ [])) ∷ [])) ≡ None
outer_index = refl

-- ---- V17: in a loop at whatever depth, whichever container is outermost or innermost

abbrev ends : List KindTree
ends = terminate null ∷ response null ∷ []

abbrev in_each : (KindTree → DefTree) → List (Option RuleFault)
in_each within = map (λ kind. broken_of (within kind)) ends

ends_at_the_top : in_each (λ kind. of (at "E" 0 "/actions/E" [] kind ∷ [])) ≡ None ∷ None ∷ []
ends_at_the_top = refl

ends_in_a_foreach : in_each (λ kind. of (at "L" 1 "/actions/L" [] (each some (at "E" 0 "/actions/L/actions/E" [] kind ∷ [])) ∷ []))
    ≡ fault 17 "/actions/L/actions/E" ∷ fault 17 "/actions/L/actions/E" ∷ []
ends_in_a_foreach = refl

ends_in_an_until : in_each (λ kind. of (at "U" 1 "/actions/U" [] (turns yes (at "E" 0 "/actions/U/actions/E" [] kind ∷ [])) ∷ []))
    ≡ fault 17 "/actions/U/actions/E" ∷ fault 17 "/actions/U/actions/E" ∷ []
ends_in_an_until = refl

ends_in_a_scope : in_each (λ kind. of (at "S" 1 "/actions/S" [] (in_scope (at "E" 0 "/actions/S/actions/E" [] kind ∷ [])) ∷ []))
    ≡ None ∷ None ∷ []
ends_in_a_scope = refl

ends_in_a_branch : in_each (λ kind. of (
    at "X" 1 "/actions/X" [] (branch yes no_actions (action_trees (at "E" 0 "/actions/X/else/actions/E" [] kind ∷ []))) ∷ []))
    ≡ None ∷ None ∷ []
ends_in_a_branch = refl

abbrev deep : String → Option RuleFault
deep pointer = fault 17 pointer

-- a Scope round a loop, and one in it
ends_in_a_foreach_in_a_scope : in_each (λ kind. of (at "S" 1 "/actions/S" [] (in_scope (
    at "L" 2 "/actions/S/actions/L" [] (each some (at "E" 0 "/actions/S/actions/L/actions/E" [] kind ∷ [])) ∷ [])) ∷ []))
    ≡ deep "/actions/S/actions/L/actions/E" ∷ deep "/actions/S/actions/L/actions/E" ∷ []
ends_in_a_foreach_in_a_scope = refl

ends_in_an_until_in_a_scope : in_each (λ kind. of (at "S" 1 "/actions/S" [] (in_scope (
    at "U" 2 "/actions/S/actions/U" [] (turns yes (at "E" 0 "/actions/S/actions/U/actions/E" [] kind ∷ [])) ∷ [])) ∷ []))
    ≡ deep "/actions/S/actions/U/actions/E" ∷ deep "/actions/S/actions/U/actions/E" ∷ []
ends_in_an_until_in_a_scope = refl

ends_in_a_scope_in_an_until : in_each (λ kind. of (at "U" 1 "/actions/U" [] (turns yes (
    at "S" 2 "/actions/U/actions/S" [] (in_scope (at "E" 0 "/actions/U/actions/S/actions/E" [] kind ∷ [])) ∷ [])) ∷ []))
    ≡ deep "/actions/U/actions/S/actions/E" ∷ deep "/actions/U/actions/S/actions/E" ∷ []
ends_in_a_scope_in_an_until = refl

-- the middle of three
ends_in_the_middle : in_each (λ kind. of (at "R" 1 "/actions/R" [] (in_scope (
    at "L" 2 "/actions/R/actions/L" [] (each some (at "S" 3 "/actions/R/actions/L/actions/S" [] (in_scope (
    at "E" 0 "/actions/R/actions/L/actions/S/actions/E" [] kind ∷ [])) ∷ [])) ∷ [])) ∷ []))
    ≡ deep "/actions/R/actions/L/actions/S/actions/E" ∷ deep "/actions/R/actions/L/actions/S/actions/E" ∷ []
ends_in_the_middle = refl

-- ---- V18: A, behind L, which holds M, which holds C; all of these loops

abbrev beside_two_loops : ActionTree → DefTree
beside_two_loops a = of (a ∷ at "L" 1 "/actions/L" [] (each some (at "M" 2 "/actions/L/actions/M" [] (turns yes (
    at "C" 3 "/actions/L/actions/M/actions/C" [] one ∷ [])) ∷ [])) ∷ [])

leaves_two_everywhere : told_of beside_two_loops (behind (asked "outputs" "C"))
    ≡ each_is (fault 18 "/actions/A") (behind (asked "outputs" "C"))
leaves_two_everywhere = refl

leaves_one_everywhere : told_of beside_two_loops (behind (asked "outputs" "M")) ≡ each_is None (behind (asked "outputs" "M"))
leaves_one_everywhere = refl

result_leaves_two_everywhere : told_of beside_two_loops (behind (asked "result" "M"))
    ≡ each_is (fault 18 "/actions/A") (behind (asked "result" "M"))
result_leaves_two_everywhere = refl

result_leaves_one_everywhere : told_of beside_two_loops (behind (asked "result" "L")) ≡ each_is None (behind (asked "result" "L"))
result_leaves_one_everywhere = refl

-- from another loop than those that are left
leaves_two_from_a_loop : broken_of (of (
    at "K" 4 "/actions/K" (after 1) (each some (at "A" 0 "/actions/K/actions/A" [] (composes (asked "outputs" "C")) ∷ []))
    ∷ at "L" 1 "/actions/L" [] (each some (at "M" 2 "/actions/L/actions/M" [] (each some (
    at "C" 3 "/actions/L/actions/M/actions/C" [] one ∷ [])) ∷ [])) ∷ [])) ≡ fault 18 "/actions/K/actions/A"
leaves_two_from_a_loop = refl

-- the expression of an Until U, over what is inside: L, a loop in it, of a Scope S and of a loop M of C
abbrev tests : ExprTree → Option RuleFault
tests e = broken_of (of (at "U" 0 "/actions/U" [] (turns (truth e) (
    at "L" 1 "/actions/U/actions/L" [] (each some (
    at "S" 2 "/actions/U/actions/L/actions/S" [] (in_scope [])
    ∷ at "M" 3 "/actions/U/actions/L/actions/M" [] (turns yes (at "C" 4 "/actions/U/actions/L/actions/M/actions/C" [] one ∷ [])) ∷ []))
    ∷ at "T" 5 "/actions/U/actions/T" [] (in_scope []) ∷ [])) ∷ []))

test_result_of_a_scope : tests (asked "result" "T") ≡ None
test_result_of_a_scope = refl

test_result_of_a_loop : tests (asked "result" "L") ≡ None
test_result_of_a_loop = refl

test_result_of_a_scope_in_a_loop : tests (asked "result" "S") ≡ None
test_result_of_a_scope_in_a_loop = refl

test_result_of_a_loop_in_a_loop : tests (asked "result" "M") ≡ fault 18 "/actions/U"
test_result_of_a_loop_in_a_loop = refl

test_body_of_a_loop_in_a_loop : tests (asked "body" "M") ≡ None
test_body_of_a_loop_in_a_loop = refl

test_body_in_two_loops : tests (asked "body" "C") ≡ fault 18 "/actions/U"
test_body_in_two_loops = refl

test_result_of_itself : tests (asked "result" "U") ≡ fault 9 "/actions/U"
test_result_of_itself = refl

-- inside the loop that holds what is named
abbrev inside_l : ExprTree → Option RuleFault
inside_l e = broken_of (of (at "L" 1 "/actions/L" [] (each some (
    at "A" 0 "/actions/L/actions/A" (after 2) (composes e)
    ∷ at "M" 2 "/actions/L/actions/M" [] (turns yes (at "N" 3 "/actions/L/actions/M/actions/N" [] (each some []) ∷ [])) ∷ [])) ∷ []))

inside_result_of_a_loop : inside_l (asked "result" "M") ≡ None
inside_result_of_a_loop = refl

inside_result_of_a_loop_in_it : inside_l (asked "result" "N") ≡ fault 18 "/actions/L/actions/A"
inside_result_of_a_loop_in_it = refl

inside_body_of_a_loop_in_it : inside_l (asked "body" "N") ≡ None
inside_body_of_a_loop_in_it = refl

inside_result_of_its_own : inside_l (asked "result" "L") ≡ fault 9 "/actions/L/actions/A"
inside_result_of_its_own = refl

-- in the same loop nothing is left
inside_one_loop : broken_of (of (at "L" 1 "/actions/L" [] (each some (at "M" 2 "/actions/L/actions/M" [] (turns yes (
    at "A" 0 "/actions/L/actions/M/actions/A" (after 3) (composes (asked "result" "S"))
    ∷ at "S" 3 "/actions/L/actions/M/actions/S" [] (in_scope []) ∷ [])) ∷ [])) ∷ [])) ≡ None
inside_one_loop = refl

-- ---- V19

result_of_a_leaf_everywhere : told_of beside_one (behind (asked "result" "B"))
    ≡ each_is (fault 19 "/actions/A") (behind (asked "result" "B"))
result_of_a_leaf_everywhere = refl

test_result_of_a_leaf : broken_of (of (
    at "U" 0 "/actions/U" [] (turns (truth (asked "result" "B")) (at "B" 1 "/actions/U/actions/B" [] one ∷ [])) ∷ []))
    ≡ fault 19 "/actions/U"
test_result_of_a_leaf = refl

-- ---- V20: `action` stands in tracked properties alone, and of what they may not ask for all else may

own_at_inputs : told_of alone (of_kinds "/actions/A" [] (at_inputs (asks "action")))
    ≡ each_is (fault 20 "/actions/A") (of_kinds "/actions/A" [] (at_inputs (asks "action")))
own_at_inputs = refl

own_at_items : told_of alone (of_kinds "/actions/A" [] (at_items (asks "action"))) ≡ fault 20 "/actions/A" ∷ fault 20 "/actions/A" ∷ []
own_at_items = refl

own_at_a_test : told_of alone (of_kinds "/actions/A" [] (at_test (asks "action"))) ≡ fault 20 "/actions/A" ∷ []
own_at_a_test = refl

own_in_tracked : told_of alone (in_tracked "/actions/A" [] (asks "action")) ≡ each_is None (in_tracked "/actions/A" [] (asks "action"))
own_in_tracked = refl

abbrev unfit : List ExprTree
unfit = asks "guid" ∷ asks "rand" ∷ asks "utcNow" ∷ asks "getFutureTime" ∷ asks "getPastTime" ∷ asks "workflow" ∷ []

abbrev for_each : (ExprTree → List (Option RuleFault)) → List (List (Option RuleFault))
for_each f = map f unfit

unfit_in_tracked : for_each (λ e. told_of alone (in_tracked "/actions/A" [] e))
    ≡ for_each (λ e. each_is (fault 20 "/actions/A") (in_tracked "/actions/A" [] e))
unfit_in_tracked = refl

fit_elsewhere : for_each (λ e. told_of alone (of_kinds "/actions/A" [] (at_inputs e)))
    ≡ for_each (λ e. each_is None (of_kinds "/actions/A" [] (at_inputs e)))
fit_elsewhere = refl

fit_at_items : for_each (λ e. told_of alone (of_kinds "/actions/A" [] (at_items e))) ≡ for_each (λ (e : ExprTree). None ∷ None ∷ [])
fit_at_items = refl

fit_at_a_test : for_each (λ e. told_of alone (of_kinds "/actions/A" [] (at_test e))) ≡ for_each (λ (e : ExprTree). None ∷ [])
fit_at_a_test = refl
