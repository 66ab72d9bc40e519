-- Worked definitions for the rules on references, parameters and variables, V9 to V12: of each one that holds it and some that break it.
use Prim.Native.String.{String}
use Rattle.std.proofs.Common.{◌≡◌, ℕ, zero, suc, List, [], ◌∷◌, true, false, Option, Some, None, refl}
use Rattle.std.specs.Prelude.{codes, pos}
use Rattle.wf_val.specs.ValueTree as value
use Rattle.wf_template.specs.TemplateTree.{TemplateTree, whole, plain}
use Rattle.wf_template.specs.DataTree.{null}
use Rattle.wf_varorder.specs.ActionTree.{ActionTrees, no_actions, CaseTrees, no_cases, case_then, KindTree, action_trees, select, query}
use Rattle.wf_varorder.specs.ActionTree.{initialize, set_to, increment, decrement, append_array, append_string, scope, branch, switch}
use Rattle.wf_varorder.specs.ActionTree.{switch_else, foreach, until}
use Rattle.wf_varorder.specs.DefTree.{DefTree, ParamTree}
use Rattle.wf_varorder.specs.Sort.{Sort}
use Rattle.wf_varorder.specs.RuleFault.{RuleFault}
use Rattle.wf_rules.specs.Broken.{broken_of}
use Rattle.wf_rules.proofs.RowWords.{after, asked, at, both, composes, data_of, fault, in_scope, init, of, one, output, reads, some}
use Rattle.wf_rules.proofs.RowWords.{tracking, trigger, truth, turns, variable, yes}

-- ---- V9

-- B isn't before A
unordered : broken_of (of (at "A" 0 "/actions/A" [] (composes (asked "body" "B")) ∷ at "B" 1 "/actions/B" [] one ∷ []))
    ≡ fault 9 "/actions/A"
unordered = refl

-- B is before A
ordered : broken_of (of (at "A" 0 "/actions/A" (after 1) (composes (asked "body" "B")) ∷ at "B" 1 "/actions/B" [] one ∷ [])) ≡ None
ordered = refl

-- no action has the name, not even in other letters
unknown : broken_of (of (at "A" 0 "/actions/A" [] one ∷ at "B" 1 "/actions/B" (after 0) (composes (asked "outputs" "a")) ∷ []))
    ≡ fault 9 "/actions/B"
unknown = refl

-- an action isn't before itself
itself : broken_of (of (at "A" 0 "/actions/A" [] (composes (asked "actions" "A")) ∷ [])) ≡ fault 9 "/actions/A"
itself = refl

-- what stands in a container goes along with it
inner : broken_of (of (
    at "S" 1 "/actions/S" [] (in_scope (at "A" 0 "/actions/S/actions/A" [] one ∷ []))
    ∷ at "T" 2 "/actions/T" (after 1) (in_scope (at "Z" 3 "/actions/T/actions/Z" [] (composes (asked "body" "A")) ∷ [])) ∷ [])) ≡ None
inner = refl

-- a container isn't before what is inside it
container : broken_of (of (
    at "S" 1 "/actions/S" [] (in_scope (at "A" 0 "/actions/S/actions/A" [] (composes (asked "result" "S")) ∷ [])) ∷ []))
    ≡ fault 9 "/actions/S/actions/A"
container = refl

-- nor the other way round, also in tracked properties
tracked_inner : broken_of (of (
    tracking "S" 1 "/actions/S" [] (in_scope (at "A" 0 "/actions/S/actions/A" [] one ∷ [])) (asked "body" "A") ∷ [])) ≡ fault 9 "/actions/S"
tracked_inner = refl

-- but the expression of an Until sees what is inside
until_inner : broken_of
    (of (at "U" 1 "/actions/U" [] (turns (truth (asked "body" "A")) (at "A" 0 "/actions/U/actions/A" [] one ∷ [])) ∷ [])) ≡ None
until_inner = refl

-- not the Until itself, nor what is inside another
until_itself : broken_of
    (of (at "U" 1 "/actions/U" [] (turns (truth (asked "result" "U")) (at "A" 0 "/actions/U/actions/A" [] one ∷ [])) ∷ []))
    ≡ fault 9 "/actions/U"
until_itself = refl

until_other : broken_of (of (
    at "T" 1 "/actions/T" [] (turns yes (at "A" 0 "/actions/T/actions/A" [] one ∷ []))
    ∷ at "U" 2 "/actions/U" [] (turns (truth (asked "body" "A")) []) ∷ [])) ≡ fault 9 "/actions/U"
until_other = refl

-- it sees what is before it as well
until_before : broken_of (of (
    at "A" 0 "/actions/A" [] one ∷ at "U" 1 "/actions/U" (after 0) (turns (truth (asked "body" "A")) []) ∷ [])) ≡ None
until_before = refl

-- and so do tracked properties, and what is asked of each item
tracked_before : broken_of (of (
    at "A" 0 "/actions/A" [] one ∷ tracking "B" 1 "/actions/B" (after 0) one (asked "body" "A") ∷ [])) ≡ None
tracked_before = refl

select_before : broken_of (of (
    at "A" 0 "/actions/A" [] one ∷ at "B" 1 "/actions/B" (after 0) (select some (data_of (asked "body" "A"))) ∷ [])) ≡ None
select_before = refl

select_unordered : broken_of (of (
    at "A" 0 "/actions/A" [] (select some (data_of (asked "body" "B"))) ∷ at "B" 1 "/actions/B" [] one ∷ [])) ≡ fault 9 "/actions/A"
select_unordered = refl

query_unordered : broken_of (of (
    at "A" 0 "/actions/A" [] (query some (whole (asked "body" "B"))) ∷ at "B" 1 "/actions/B" [] one ∷ [])) ≡ fault 9 "/actions/A"
query_unordered = refl

-- two branches of one If
branches : broken_of (of (
    at "X" 2 "/actions/X" [] (branch yes (action_trees (at "A" 0 "/actions/X/actions/A" [] one ∷ []))
    (action_trees (at "B" 1 "/actions/X/else/actions/B" [] (composes (asked "body" "A")) ∷ []))) ∷ []))
    ≡ fault 9 "/actions/X/else/actions/B"
branches = refl

-- in each graph of each container
abbrev lost : String → ActionTrees
lost pointer = action_trees (at "Z" 1 pointer [] (composes (asked "body" "Y")) ∷ [])

abbrev holding : KindTree → Option RuleFault
holding kind = broken_of (of (at "S" 0 "/actions/S" [] kind ∷ []))

abbrev case_of : ActionTrees → CaseTrees → CaseTrees
case_of graph rest = case_then (codes "c") (value.text (codes "c")) graph rest

abbrev on : TemplateTree
on = plain (codes "c")

in_a_scope : holding (scope (lost "/actions/S/actions/Z")) ≡ fault 9 "/actions/S/actions/Z"
in_a_scope = refl

in_a_branch : holding (branch yes (lost "/actions/S/actions/Z") no_actions) ≡ fault 9 "/actions/S/actions/Z"
in_a_branch = refl

in_a_case : holding (switch on (case_of (lost "/actions/S/cases/c/actions/Z") no_cases)) ≡ fault 9 "/actions/S/cases/c/actions/Z"
in_a_case = refl

in_a_later_case : holding (switch on (case_of no_actions (case_of (lost "/actions/S/cases/d/actions/Z") no_cases)))
    ≡ fault 9 "/actions/S/cases/d/actions/Z"
in_a_later_case = refl

in_a_case_of_two : holding (switch_else on (case_of (lost "/actions/S/cases/c/actions/Z") no_cases) no_actions)
    ≡ fault 9 "/actions/S/cases/c/actions/Z"
in_a_case_of_two = refl

in_a_default : holding (switch_else on (case_of no_actions no_cases) (lost "/actions/S/default/actions/Z"))
    ≡ fault 9 "/actions/S/default/actions/Z"
in_a_default = refl

in_a_foreach : holding (foreach some 20 (lost "/actions/S/actions/Z")) ≡ fault 9 "/actions/S/actions/Z"
in_a_foreach = refl

in_an_until : holding (until yes 60 false (lost "/actions/S/actions/Z")) ≡ fault 9 "/actions/S/actions/Z"
in_an_until = refl

-- an output sees all actions, and no others
output_any : broken_of
    (record (of (at "A" 0 "/actions/A" [] one ∷ at "B" 1 "/actions/B" [] one ∷ [])) { outputs = output (asked "body" "B") }) ≡ None
output_any = refl

output_unknown : broken_of (record (of (at "A" 0 "/actions/A" [] one ∷ [])) { outputs = output (asked "body" "B") }) ≡ fault 9 "/outputs/o"
output_unknown = refl

-- each output is looked at, and its pointer is told with its name as a pointer has it
later_output : broken_of (record (of []) {
  outputs = record { name = codes "o"; value = null } ∷ record { name = codes "o/p"; value = data_of (asked "body" "B") } ∷ [];
}) ≡ fault 9 "/outputs/o~1p"
later_output = refl

-- the least pointer by its bytes: the name `a/` is below `a0`, but its pointer isn't
least_pointer : broken_of (of (
    at "a/" 0 "/actions/a~1" [] (composes (asked "body" "Z")) ∷ at "a0" 1 "/actions/a0" [] (composes (asked "body" "Z")) ∷ []))
    ≡ fault 9 "/actions/a0"
least_pointer = refl

-- of two names the second counts too
second_name : broken_of (of (
    at "A" 0 "/actions/A" (after 1) (composes (both (asked "body" "B") (asked "body" "Z"))) ∷ at "B" 1 "/actions/B" [] one ∷ []))
    ≡ fault 9 "/actions/A"
second_name = refl

second_result : broken_of (of (
    at "A" 0 "/actions/A" (after 1) (composes (both (asked "result" "S") (asked "result" "T")))
    ∷ at "S" 1 "/actions/S" [] (in_scope []) ∷ [])) ≡ fault 9 "/actions/A"
second_result = refl

-- ---- V10

abbrev declared : Sort → Option value.ValueTree → Option (List value.ValueTree) → List ParamTree
declared sort default allowed = record { name = codes "p"; sort = sort; default = default; allowed = allowed } ∷ []

-- so many lists in one another
abbrev nested : ℕ → value.ValueTree
nested zero = value.null
nested (suc n) = value.list (value.value_then (nested n) value.no_values)

undeclared : broken_of
    (record (of (at "A" 0 "/actions/A" [] (composes (asked "parameters" "P")) ∷ [])) { parameters = declared Sort.Int None None })
    ≡ fault 10 "/actions/A"
undeclared = refl

is_declared : broken_of (record (of (at "A" 0 "/actions/A" [] (composes (asked "parameters" "p")) ∷ [])) {
  parameters = declared Sort.Int None None;
  outputs = output (asked "parameters" "p");
  triggers = trigger (asked "parameters" "p");
}) ≡ None
is_declared = refl

undeclared_output : broken_of (record (of []) { outputs = output (asked "parameters" "p") }) ≡ fault 10 "/outputs/o"
undeclared_output = refl

undeclared_trigger : broken_of (record (of []) { triggers = trigger (asked "parameters" "p") }) ≡ fault 10 "/triggers/t"
undeclared_trigger = refl

second_parameter : broken_of (record (of (
    at "A" 0 "/actions/A" [] (composes (both (asked "parameters" "p") (asked "parameters" "q"))) ∷ [])) {
      parameters = declared Sort.Int None None;
    }) ≡ fault 10 "/actions/A"
second_parameter = refl

-- each condition of a trigger is looked at
undeclared_condition : broken_of (record (of []) {
  triggers = record {
    name = codes "t";
    split = None;
    conditions = whole (asked "parameters" "p") ∷ whole (asked "parameters" "q") ∷ [];
  } ∷ [];
  parameters = declared Sort.Int None None;
}) ≡ fault 10 "/triggers/t"
undeclared_condition = refl

-- the sections by their bytes
undeclared_both : broken_of
    (record (of []) { triggers = trigger (asked "parameters" "q"); parameters = declared Sort.Int (Some value.null) None })
    ≡ fault 10 "/parameters/p"
undeclared_both = refl

default_of_a_type : broken_of (record (of []) { parameters = declared Sort.Int (Some (value.number (pos 1))) None }) ≡ None
default_of_a_type = refl

default_of_another : broken_of (record (of []) { parameters = declared Sort.Int (Some (value.boolean true)) None })
    ≡ fault 10 "/parameters/p"
default_of_another = refl

default_bool : broken_of (record (of []) { parameters = declared Sort.Bool (Some (value.boolean true)) None }) ≡ None
default_bool = refl

no_default_bool : broken_of (record (of []) { parameters = declared Sort.Bool (Some (value.text (codes "true"))) None })
    ≡ fault 10 "/parameters/p"
no_default_bool = refl

default_object : broken_of (record (of []) { parameters = declared Sort.Obj (Some (value.object value.no_members)) None }) ≡ None
default_object = refl

no_default_object : broken_of (record (of []) { parameters = declared Sort.Obj (Some (value.list value.no_values)) None })
    ≡ fault 10 "/parameters/p"
no_default_object = refl

no_default_list : broken_of (record (of []) { parameters = declared Sort.List (Some (value.object value.no_members)) None })
    ≡ fault 10 "/parameters/p"
no_default_list = refl

-- each parameter is looked at
later_parameter : broken_of (record (of []) {
  parameters = record { name = codes "o"; sort = Sort.Int; default = None; allowed = None }
      ∷ record { name = codes "o~p"; sort = Sort.Int; default = Some value.null; allowed = None } ∷ [];
}) ≡ fault 10 "/parameters/o~0p"
later_parameter = refl

default_too_deep : broken_of (record (of []) { parameters = declared Sort.List (Some (nested 65)) None }) ≡ fault 10 "/parameters/p"
default_too_deep = refl

default_as_deep : broken_of (record (of []) { parameters = declared Sort.List (Some (nested 64)) None }) ≡ None
default_as_deep = refl

allowed_of_another : broken_of (record (of []) {
  parameters = declared Sort.Text None (Some (value.text [] ∷ value.number (pos 1) ∷ []));
}) ≡ fault 10 "/parameters/p"
allowed_of_another = refl

allowed_too_deep : broken_of (record (of []) { parameters = declared Sort.List None (Some (nested 65 ∷ [])) }) ≡ fault 10 "/parameters/p"
allowed_too_deep = refl

allowed_of_its_type : broken_of (record (of []) {
  parameters = declared Sort.Int None (Some (value.number (pos 1) ∷ value.number (pos 2) ∷ []));
}) ≡ None
allowed_of_its_type = refl

none_allowed : broken_of (record (of []) { parameters = declared Sort.Text (Some (value.text [])) (Some []) }) ≡ None
none_allowed = refl

-- what a wrapper gives has to fit, and may be of another type
given_of_another : broken_of (record (of []) { parameters = declared Sort.Int None None; given = (codes "p", value.null) ∷ [] }) ≡ None
given_of_another = refl

given_too_deep : broken_of (record (of []) { parameters = declared Sort.Int None None; given = (codes "p", nested 65) ∷ [] })
    ≡ fault 10 "/parameters/p"
given_too_deep = refl

given_to_none : broken_of (record (of []) { given = (codes "p", nested 65) ∷ [] }) ≡ None
given_to_none = refl

-- ---- V11

uninitialised : broken_of (of (at "A" 0 "/actions/A" [] reads ∷ [])) ≡ fault 11 "/actions/A"
uninitialised = refl

uninitialised_output : broken_of (record (of []) { outputs = output (asked "variables" "v") }) ≡ fault 11 "/outputs/o"
uninitialised_output = refl

unwritten : broken_of (of (at "A" 0 "/actions/A" [] (set_to (codes "v") null) ∷ [])) ≡ fault 11 "/actions/A"
unwritten = refl

-- the initialisation of another variable is none
other_variable : broken_of (of (
    at "A" 0 "/actions/A" (after 1) reads
    ∷ at "V" 1 "/actions/V" [] (initialize (record { name = codes "w"; sort = Sort.List; value = None } ∷ [])) ∷ []))
    ≡ fault 11 "/actions/A"
other_variable = refl

initialised : broken_of (record (of (at "A" 0 "/actions/A" (after 1) reads ∷ at "V" 1 "/actions/V" [] (init Sort.List) ∷ [])) {
  outputs = output (asked "variables" "v");
}) ≡ None
initialised = refl

-- not its name in other letters
variable_in_other_letters : broken_of (of (
    at "A" 0 "/actions/A" (after 1) (composes (asked "variables" "V")) ∷ at "V" 1 "/actions/V" [] (init Sort.List) ∷ []))
    ≡ fault 11 "/actions/A"
variable_in_other_letters = refl

second_read : broken_of (of (
    at "A" 0 "/actions/A" (after 1) (composes (both (asked "variables" "v") (asked "variables" "w")))
    ∷ at "V" 1 "/actions/V" [] (init Sort.List) ∷ [])) ≡ fault 11 "/actions/A"
second_read = refl

second_written : broken_of (of (
    at "A" 0 "/actions/A" [] (initialize (variable "w" ∷ []))
    ∷ at "V" 1 "/actions/V" (after 0) (initialize (variable "v" ∷ variable "w" ∷ [])) ∷ [])) ≡ fault 11 "/actions/V"
second_written = refl

-- twice: the later pointer, and none that reads
twice : broken_of (of (
    at "A" 0 "/actions/A" [] reads ∷ at "V" 1 "/actions/V" [] (init Sort.List) ∷ at "W" 2 "/actions/W" (after 1) (init Sort.List) ∷ []))
    ≡ fault 11 "/actions/W"
twice = refl

-- and none that writes
twice_written : broken_of (of (
    at "V" 0 "/actions/V" [] (init Sort.List) ∷ at "V1" 1 "/actions/V1" [] (set_to (codes "v") null)
    ∷ at "W" 2 "/actions/W" [] (init Sort.List) ∷ [])) ≡ fault 11 "/actions/W"
twice_written = refl

-- twice by one action
twice_itself : broken_of (of (at "V" 0 "/actions/V" [] (initialize (
    record { name = codes "v"; sort = Sort.List; value = None } ∷ record { name = codes "v"; sort = Sort.List; value = None } ∷ [])) ∷ []))
    ≡ fault 11 "/actions/V"
twice_itself = refl

-- the later by its pointer, of which one is nested
twice_nested : broken_of (of (
    at "S" 0 "/actions/S" [] (in_scope (at "Z" 2 "/actions/S/actions/Z" [] (init Sort.List) ∷ []))
    ∷ at "V" 1 "/actions/V" [] (init Sort.List) ∷ [])) ≡ fault 11 "/actions/V"
twice_nested = refl

-- not at the top: whatever names it, what initialises it among them
nested_alone : broken_of (of (at "S" 0 "/actions/S" [] (in_scope (at "V" 1 "/actions/S/actions/V" [] (init Sort.List) ∷ [])) ∷ []))
    ≡ fault 11 "/actions/S/actions/V"
nested_alone = refl

nested_read : broken_of (of (
    at "A" 0 "/actions/A" (after 1) reads
    ∷ at "S" 1 "/actions/S" [] (in_scope (at "V" 2 "/actions/S/actions/V" [] (init Sort.List) ∷ [])) ∷ [])) ≡ fault 11 "/actions/A"
nested_read = refl

nested_written : broken_of (of (
    at "A" 0 "/actions/A" (after 1) (set_to (codes "v") null)
    ∷ at "S" 1 "/actions/S" [] (in_scope (at "V" 2 "/actions/S/actions/V" [] (init Sort.List) ∷ [])) ∷ [])) ≡ fault 11 "/actions/A"
nested_written = refl

abbrev written : Sort → KindTree → DefTree
written sort kind = of (at "A" 0 "/actions/A" (after 1) kind ∷ at "V" 1 "/actions/V" [] (init sort) ∷ [])

suits_counting : broken_of (written Sort.Int (increment (codes "v") None)) ≡ None
suits_counting = refl

suits_no_counting : broken_of (written Sort.Text (increment (codes "v") None)) ≡ fault 11 "/actions/A"
suits_no_counting = refl

suits_counting_down : broken_of (written Sort.Int (decrement (codes "v") None)) ≡ None
suits_counting_down = refl

suits_no_counting_down : broken_of (written Sort.List (decrement (codes "v") None)) ≡ fault 11 "/actions/A"
suits_no_counting_down = refl

suits_text : broken_of (written Sort.Text (append_string (codes "v") null)) ≡ None
suits_text = refl

suits_no_text : broken_of (written Sort.List (append_string (codes "v") null)) ≡ fault 11 "/actions/A"
suits_no_text = refl

suits_list : broken_of (written Sort.List (append_array (codes "v") null)) ≡ None
suits_list = refl

suits_no_list : broken_of (written Sort.Text (append_array (codes "v") null)) ≡ fault 11 "/actions/A"
suits_no_list = refl

suits_any : broken_of (written Sort.Obj (set_to (codes "v") null)) ≡ None
suits_any = refl

-- ---- V12

early : broken_of (of (at "A" 0 "/actions/A" [] reads ∷ at "V" 1 "/actions/V" [] (init Sort.List) ∷ [])) ≡ fault 12 "/actions/A"
early = refl

early_writer : broken_of (of (at "A" 0 "/actions/A" [] (set_to (codes "v") null) ∷ at "V" 1 "/actions/V" [] (init Sort.List) ∷ []))
    ≡ fault 12 "/actions/A"
early_writer = refl

-- what initialises a variable may read it, and an output comes after all
own_variable : broken_of (record (of (
    at "V" 0 "/actions/V" []
    (initialize (record { name = codes "v"; sort = Sort.List; value = Some (data_of (asked "variables" "v")) } ∷ [])) ∷ [])) {
      outputs = output (asked "variables" "v");
    }) ≡ None
own_variable = refl

early_inner : broken_of (of (
    at "S" 1 "/actions/S" (after 2) (in_scope (at "A" 0 "/actions/S/actions/A" [] reads ∷ []))
    ∷ at "V" 2 "/actions/V" [] (init Sort.List) ∷ [])) ≡ None
early_inner = refl

early_test : broken_of (of (
    at "U" 0 "/actions/U" [] (turns (truth (asked "variables" "v")) []) ∷ at "V" 1 "/actions/V" [] (init Sort.List) ∷ []))
    ≡ fault 12 "/actions/U"
early_test = refl

second_early : broken_of (of (
    at "A" 0 "/actions/A" (after 1) (composes (both (asked "variables" "v") (asked "variables" "w")))
    ∷ at "V" 1 "/actions/V" [] (init Sort.List) ∷ at "W" 2 "/actions/W" [] (initialize (variable "w" ∷ [])) ∷ []))
    ≡ fault 12 "/actions/A"
second_early = refl
