-- Worked values: definitions, and what each breaks first. Each rule is there by itself, and beside another.
use Rattle.std.proofs.Common.{◌≡◌, ℕ, zero, suc, pos, List, [], ◌∷◌, ◌++◌, codes, map, true, false, nat_lt, Some, None, refl}
use Rattle.std.specs.Fmt.{digits}
use Rattle.std.specs.Str.{chars}
use lib.Utf8.{encode}
use Rattle.wf_texts.specs.ActionType.{type_of}
use Rattle.wf_texts.specs.KindsMembers.{action_has_members, trigger_has_members, output_has_members}
use Rattle.wf_texts.specs.Kinds.{kind}
use Rattle.wf_texts.specs.Text.{template_in}
use Rattle.wf_texts.specs.WordTests.{word_of, word_front}
use Rattle.wf_texts.specs.Members.{bad_texts_of_action, bad_texts_of_trigger, bad_texts_of_output}
use Rattle.wf_texts.specs.Sound.{is_bad}
use Rattle.wf_val.specs.ValueTree.{ValueTree, null, number, text, list, object, trees, members, Member}
use Rattle.wf_form.specs.Actions.{actions_of}
use Rattle.wf_form.specs.Fault.{first_fault, fault_of, rule_number, rules_in_order}
use Rattle.wf_form.specs.Form.{form}
use Rattle.wf_form.specs.Judge.{lacking, expressions, run_after}
use Rattle.wf_form.specs.Limits.{limits}
use Rattle.wf_form.specs.Naming.{naming, is_name}
use Rattle.wf_form.specs.Schema.{schema}
use Rattle.wf_form.specs.Types.{types}
use Rattle.wf_form.specs.Whole.{Whole}
use Rattle.wf_form.specs.declared.role.Role.{Role}
use Rattle.wf_form.specs.declared.rule.Rule.{Rule}

-- ---- definitions

abbrev of : List Member → ValueTree
of ms = object (members ms)

abbrev word : List ℕ → ValueTree
word s = text s

abbrev one : ValueTree
one = number (pos 1)

-- a definition with these actions
abbrev graph : List Member → ValueTree
graph as' = of ((codes "actions", of as') ∷ [])

abbrev compose : List ℕ → Member
compose name = (name, of ((codes "inputs", one) ∷ (codes "type", word (codes "Compose")) ∷ []))

-- an action of a type, with further members before `type`
abbrev action : List ℕ → List ℕ → List Member → Member
action name type' ms = (name, of (ms ++ (codes "type", word type') ∷ []))

-- runs after the success of others
abbrev after : List (List ℕ) → Member
after names = (codes "runAfter", of (map (λ n. (n, list (trees (word (codes "Succeeded") ∷ [])))) names))

abbrev waiting : List ℕ → List (List ℕ) → Member
waiting name names = action name (codes "Compose") ((codes "inputs", one) ∷ after names ∷ [])

abbrev in_scope : List ℕ → List Member → Member
in_scope name as' = action name (codes "Scope") ((codes "actions", of as') ∷ [])

abbrev says : ValueTree → Rule → List ℕ → Type 0
says t rule pointer = first_fault t ≡ Some (rule, pointer)

abbrev fine : ValueTree → Type 0
fine t = first_fault t ≡ None

-- ---- the rules by their numbers

numbers : map rule_number (Rule.Form ∷ Rule.Schema ∷ Rule.Limits ∷ Rule.Names ∷ Rule.Types ∷ Rule.Members ∷ Rule.Expressions
    ∷ Rule.RunAfter ∷ []) ≡ 1 ∷ 2 ∷ 3 ∷ 4 ∷ 5 ∷ 6 ∷ 7 ∷ 8 ∷ []
numbers = refl

in_order_of_numbers : map rule_number rules_in_order ≡ 1 ∷ 2 ∷ 3 ∷ 4 ∷ 5 ∷ 6 ∷ 7 ∷ 8 ∷ []
in_order_of_numbers = refl

-- ---- accepted

nothing : fine (of [])
unfolding type_of form schema limits naming types lacking expressions run_after chars action_has_members trigger_has_members
    output_has_members bad_texts_of_action bad_texts_of_trigger bad_texts_of_output is_bad template_in kind word_of word_front
nothing = refl

no_actions : fine (graph [])
unfolding type_of form schema limits naming types lacking expressions run_after chars action_has_members trigger_has_members
    output_has_members bad_texts_of_action bad_texts_of_trigger bad_texts_of_output is_bad template_in kind word_of word_front
no_actions = refl

in_a_row : fine (graph (compose (codes "A") ∷ waiting (codes "B") (codes "A" ∷ []) ∷ []))
unfolding type_of form schema limits naming types lacking expressions run_after chars action_has_members trigger_has_members
    output_has_members bad_texts_of_action bad_texts_of_trigger bad_texts_of_output is_bad template_in kind word_of word_front
in_a_row = refl

-- members that no rule looks at
other_members : fine (of ((codes "metadata", one) ∷ (codes "staticResults", null) ∷ []))
unfolding type_of form schema limits naming types lacking expressions run_after chars action_has_members trigger_has_members
    output_has_members bad_texts_of_action bad_texts_of_trigger bad_texts_of_output is_bad template_in kind word_of word_front
other_members = refl

-- the `else` of a Scope, the `cases` of an If and the `actions` of a Compose are no graphs
else_of_a_scope : fine (graph (action (codes "S") (codes "Scope") ((codes "actions", of []) ∷ (codes "else", one) ∷ []) ∷ []))
unfolding type_of form schema limits naming types lacking expressions run_after chars action_has_members trigger_has_members
    output_has_members bad_texts_of_action bad_texts_of_trigger bad_texts_of_output is_bad template_in kind word_of word_front
else_of_a_scope = refl

cases_of_an_if : fine (graph (action (codes "I") (codes "If") ((codes "cases", one) ∷ (codes "expression", word (codes "x")) ∷ [])
    ∷ []))
unfolding type_of form schema limits naming types lacking expressions run_after chars action_has_members trigger_has_members
    output_has_members bad_texts_of_action bad_texts_of_trigger bad_texts_of_output is_bad template_in kind word_of word_front
cases_of_an_if = refl

actions_of_a_compose : fine (graph (action (codes "C") (codes "Compose") ((codes "actions", one) ∷ (codes "inputs", one) ∷ []) ∷ []))
unfolding type_of form schema limits naming types lacking expressions run_after chars action_has_members trigger_has_members
    output_has_members bad_texts_of_action bad_texts_of_trigger bad_texts_of_output is_bad template_in kind word_of word_front
actions_of_a_compose = refl

-- a case may have the name of an action
cases_have_names_of_their_own : fine (graph (compose (codes "A")
    ∷ action (codes "S") (codes "Switch") ((codes "cases", of ((codes "A", of ((codes "case", one) ∷ [])) ∷ []))
    ∷ (codes "expression", word (codes "a")) ∷ []) ∷ []))
unfolding type_of form schema limits naming types lacking expressions run_after chars action_has_members trigger_has_members
    output_has_members bad_texts_of_action bad_texts_of_trigger bad_texts_of_output is_bad template_in kind word_of word_front
cases_have_names_of_their_own = refl

names_differ_in_case : fine (graph (compose (codes "A") ∷ compose (codes "a") ∷ []))
unfolding type_of form schema limits naming types lacking expressions run_after chars action_has_members trigger_has_members
    output_has_members bad_texts_of_action bad_texts_of_trigger bad_texts_of_output is_bad template_in kind word_of word_front
names_differ_in_case = refl

types_do_not : fine (graph (action (codes "A") (codes "cOMPOSE") ((codes "inputs", one) ∷ []) ∷ []))
unfolding type_of form schema limits naming types lacking expressions run_after chars action_has_members trigger_has_members
    output_has_members bad_texts_of_action bad_texts_of_trigger bad_texts_of_output is_bad template_in kind word_of word_front
types_do_not = refl

level_eight : fine (graph (in_scope (codes "1") (in_scope (codes "2") (in_scope (codes "3") (in_scope (codes "4") (in_scope (codes "5")
    (in_scope (codes "6") (in_scope (codes "7") (compose (codes "8") ∷ []) ∷ []) ∷ []) ∷ []) ∷ []) ∷ []) ∷ []) ∷ []))
unfolding type_of form schema limits naming types lacking expressions run_after chars action_has_members trigger_has_members
    output_has_members bad_texts_of_action bad_texts_of_trigger bad_texts_of_output is_bad template_in kind word_of word_front
level_eight = refl

-- ---- V1: form

no_object : says (one) Rule.Form (codes "")
unfolding type_of form schema limits naming types lacking expressions run_after chars action_has_members trigger_has_members
    output_has_members bad_texts_of_action bad_texts_of_trigger bad_texts_of_output is_bad template_in kind word_of word_front
no_object = refl

null_definition : says (null) Rule.Form (codes "")
unfolding type_of form schema limits naming types lacking expressions run_after chars action_has_members trigger_has_members
    output_has_members bad_texts_of_action bad_texts_of_trigger bad_texts_of_output is_bad template_in kind word_of word_front
null_definition = refl

actions_no_object : says (of ((codes "actions", list (trees [])) ∷ [])) Rule.Form (codes "/actions")
unfolding type_of form schema limits naming types lacking expressions run_after chars action_has_members trigger_has_members
    output_has_members bad_texts_of_action bad_texts_of_trigger bad_texts_of_output is_bad template_in kind word_of word_front
actions_no_object = refl

-- null is there
actions_null : says (of ((codes "actions", null) ∷ [])) Rule.Form (codes "/actions")
unfolding type_of form schema limits naming types lacking expressions run_after chars action_has_members trigger_has_members
    output_has_members bad_texts_of_action bad_texts_of_trigger bad_texts_of_output is_bad template_in kind word_of word_front
actions_null = refl

parameters_no_object : says (of ((codes "parameters", one) ∷ [])) Rule.Form (codes "/parameters")
unfolding type_of form schema limits naming types lacking expressions run_after chars action_has_members trigger_has_members
    output_has_members bad_texts_of_action bad_texts_of_trigger bad_texts_of_output is_bad template_in kind word_of word_front
parameters_no_object = refl

triggers_no_object : says (of ((codes "triggers", one) ∷ [])) Rule.Form (codes "/triggers")
unfolding type_of form schema limits naming types lacking expressions run_after chars action_has_members trigger_has_members
    output_has_members bad_texts_of_action bad_texts_of_trigger bad_texts_of_output is_bad template_in kind word_of word_front
triggers_no_object = refl

outputs_no_object : says (of ((codes "outputs", one) ∷ [])) Rule.Form (codes "/outputs")
unfolding type_of form schema limits naming types lacking expressions run_after chars action_has_members trigger_has_members
    output_has_members bad_texts_of_action bad_texts_of_trigger bad_texts_of_output is_bad template_in kind word_of word_front
outputs_no_object = refl

a_parameter : says (of ((codes "parameters", of ((codes "p", one) ∷ [])) ∷ [])) Rule.Form (codes "/parameters/p")
unfolding type_of form schema limits naming types lacking expressions run_after chars action_has_members trigger_has_members
    output_has_members bad_texts_of_action bad_texts_of_trigger bad_texts_of_output is_bad template_in kind word_of word_front
a_parameter = refl

a_trigger : says (of ((codes "triggers", of ((codes "t", one) ∷ [])) ∷ [])) Rule.Form (codes "/triggers/t")
unfolding type_of form schema limits naming types lacking expressions run_after chars action_has_members trigger_has_members
    output_has_members bad_texts_of_action bad_texts_of_trigger bad_texts_of_output is_bad template_in kind word_of word_front
a_trigger = refl

an_output : says (of ((codes "outputs", of ((codes "o", one) ∷ [])) ∷ [])) Rule.Form (codes "/outputs/o")
unfolding type_of form schema limits naming types lacking expressions run_after chars action_has_members trigger_has_members
    output_has_members bad_texts_of_action bad_texts_of_trigger bad_texts_of_output is_bad template_in kind word_of word_front
an_output = refl

an_action : says (graph ((codes "A", one) ∷ [])) Rule.Form (codes "/actions/A")
unfolding type_of form schema limits naming types lacking expressions run_after chars action_has_members trigger_has_members
    output_has_members bad_texts_of_action bad_texts_of_trigger bad_texts_of_output is_bad template_in kind word_of word_front
an_action = refl

content_version : says (of ((codes "contentVersion", null) ∷ [])) Rule.Form (codes "/contentVersion")
unfolding type_of form schema limits naming types lacking expressions run_after chars action_has_members trigger_has_members
    output_has_members bad_texts_of_action bad_texts_of_trigger bad_texts_of_output is_bad template_in kind word_of word_front
content_version = refl

allowed_values : says (of ((codes "parameters", of ((codes "p", of ((codes "allowedValues", one) ∷ [])) ∷ []))
    ∷ [])) Rule.Form (codes "/parameters/p/allowedValues")
unfolding type_of form schema limits naming types lacking expressions run_after chars action_has_members trigger_has_members
    output_has_members bad_texts_of_action bad_texts_of_trigger bad_texts_of_output is_bad template_in kind word_of word_front
allowed_values = refl

-- of an action of any type
tracked_properties : says (graph (action (codes "A") (codes "Table") ((codes "trackedProperties", one) ∷ [])
    ∷ [])) Rule.Form (codes "/actions/A/trackedProperties")
unfolding type_of form schema limits naming types lacking expressions run_after chars action_has_members trigger_has_members
    output_has_members bad_texts_of_action bad_texts_of_trigger bad_texts_of_output is_bad template_in kind word_of word_front
tracked_properties = refl

runtime_configuration : says (graph (action (codes "A") (codes "Compose") ((codes "runtimeConfiguration", one) ∷ [])
    ∷ [])) Rule.Form (codes "/actions/A/runtimeConfiguration")
unfolding type_of form schema limits naming types lacking expressions run_after chars action_has_members trigger_has_members
    output_has_members bad_texts_of_action bad_texts_of_trigger bad_texts_of_output is_bad template_in kind word_of word_front
runtime_configuration = refl

configuration_of_a_trigger : fine (of ((
  codes "triggers",
  of ((
    codes "t",
    of ((codes "runtimeConfiguration", one)
        ∷ (codes "type", word (codes "Request")) ∷ []),
  ) ∷ []),
) ∷ []))
unfolding type_of form schema limits naming types lacking expressions run_after chars action_has_members trigger_has_members
    output_has_members bad_texts_of_action bad_texts_of_trigger bad_texts_of_output is_bad template_in kind word_of word_front
configuration_of_a_trigger = refl

run_after_null : says (graph ((codes "A", of ((codes "runAfter", null) ∷ [])) ∷ [])) Rule.Form (codes "/actions/A/runAfter")
unfolding type_of form schema limits naming types lacking expressions run_after chars action_has_members trigger_has_members
    output_has_members bad_texts_of_action bad_texts_of_trigger bad_texts_of_output is_bad template_in kind word_of word_front
run_after_null = refl

run_after_a_text : says (graph ((codes "A", of ((codes "runAfter", of ((codes "B", word (codes "Succeeded")) ∷ [])) ∷ []))
    ∷ [])) Rule.Form (codes "/actions/A/runAfter")
unfolding type_of form schema limits naming types lacking expressions run_after chars action_has_members trigger_has_members
    output_has_members bad_texts_of_action bad_texts_of_trigger bad_texts_of_output is_bad template_in kind word_of word_front
run_after_a_text = refl

run_after_a_number : says (graph ((
  codes "A",
  of ((
    codes "runAfter",
    of ((codes "B", list (trees (word (codes "Failed") ∷ one ∷ [])))
        ∷ []),
  ) ∷ []),
) ∷ [])) Rule.Form (codes "/actions/A/runAfter")
unfolding type_of form schema limits naming types lacking expressions run_after chars action_has_members trigger_has_members
    output_has_members bad_texts_of_action bad_texts_of_trigger bad_texts_of_output is_bad template_in kind word_of word_front
run_after_a_number = refl

graph_of_an_until : says (graph (action (codes "U") (codes "UNTIL") ((codes "actions", one) ∷ [])
    ∷ [])) Rule.Form (codes "/actions/U/actions")
unfolding type_of form schema limits naming types lacking expressions run_after chars action_has_members trigger_has_members
    output_has_members bad_texts_of_action bad_texts_of_trigger bad_texts_of_output is_bad template_in kind word_of word_front
graph_of_an_until = refl

else_of_an_if : says (graph (action (codes "I") (codes "if") ((codes "else", one) ∷ []) ∷ [])) Rule.Form (codes "/actions/I/else")
unfolding type_of form schema limits naming types lacking expressions run_after chars action_has_members trigger_has_members
    output_has_members bad_texts_of_action bad_texts_of_trigger bad_texts_of_output is_bad template_in kind word_of word_front
else_of_an_if = refl

graph_of_an_else : says (graph (action (codes "I") (codes "If") ((codes "else", of ((codes "actions", one) ∷ [])) ∷ [])
    ∷ [])) Rule.Form (codes "/actions/I/else/actions")
unfolding type_of form schema limits naming types lacking expressions run_after chars action_has_members trigger_has_members
    output_has_members bad_texts_of_action bad_texts_of_trigger bad_texts_of_output is_bad template_in kind word_of word_front
graph_of_an_else = refl

cases_of_a_switch : says (graph (action (codes "S") (codes "Switch") ((codes "cases", one) ∷ []) ∷ [])) Rule.Form (codes "/actions/S/cases")
unfolding type_of form schema limits naming types lacking expressions run_after chars action_has_members trigger_has_members
    output_has_members bad_texts_of_action bad_texts_of_trigger bad_texts_of_output is_bad template_in kind word_of word_front
cases_of_a_switch = refl

a_case : says (graph (action (codes "S") (codes "Switch") ((codes "cases", of ((codes "c", one) ∷ [])) ∷ [])
    ∷ [])) Rule.Form (codes "/actions/S/cases/c")
unfolding type_of form schema limits naming types lacking expressions run_after chars action_has_members trigger_has_members
    output_has_members bad_texts_of_action bad_texts_of_trigger bad_texts_of_output is_bad template_in kind word_of word_front
a_case = refl

graph_of_a_case : says (graph (action (codes "S") (codes "Switch") ((
  codes "cases",
  of ((codes "c", of ((codes "actions", one) ∷ []))
      ∷ []),
) ∷ []) ∷ [])) Rule.Form (codes "/actions/S/cases/c/actions")
unfolding type_of form schema limits naming types lacking expressions run_after chars action_has_members trigger_has_members
    output_has_members bad_texts_of_action bad_texts_of_trigger bad_texts_of_output is_bad template_in kind word_of word_front
graph_of_a_case = refl

default_of_a_switch : says (graph (action (codes "S") (codes "Switch") ((codes "default", one) ∷ [])
    ∷ [])) Rule.Form (codes "/actions/S/default")
unfolding type_of form schema limits naming types lacking expressions run_after chars action_has_members trigger_has_members
    output_has_members bad_texts_of_action bad_texts_of_trigger bad_texts_of_output is_bad template_in kind word_of word_front
default_of_a_switch = refl

below_an_escape : says (graph ((codes "a/b~c", of ((codes "runAfter", one) ∷ [])) ∷ [])) Rule.Form (codes "/actions/a~1b~0c/runAfter")
unfolding type_of form schema limits naming types lacking expressions run_after chars action_has_members trigger_has_members
    output_has_members bad_texts_of_action bad_texts_of_trigger bad_texts_of_output is_bad template_in kind word_of word_front
below_an_escape = refl

-- `-` is below `/`: the pointer of A-1 is less than what lies in A
least_by_bytes : says (graph ((codes "A", of ((codes "runAfter", one) ∷ [])) ∷ (codes "A-1", one) ∷ [])) Rule.Form (codes "/actions/A-1")
unfolding type_of form schema limits naming types lacking expressions run_after chars action_has_members trigger_has_members
    output_has_members bad_texts_of_action bad_texts_of_trigger bad_texts_of_output is_bad template_in kind word_of word_front
least_by_bytes = refl

-- the name `a/` is below `a0`, and its pointer above: `~` is above all letters
least_when_escaped : says (graph ((codes "a/", one) ∷ (codes "a0", one) ∷ [])) Rule.Form (codes "/actions/a0")
unfolding type_of form schema limits naming types lacking expressions run_after chars action_has_members trigger_has_members
    output_has_members bad_texts_of_action bad_texts_of_trigger bad_texts_of_output is_bad template_in kind word_of word_front
least_when_escaped = refl

-- ---- V2: schema

another_schema : says (of ((codes "$schema", word (codes "x")) ∷ [])) Rule.Schema (codes "/$schema")
unfolding type_of form schema limits naming types lacking expressions run_after chars action_has_members trigger_has_members
    output_has_members bad_texts_of_action bad_texts_of_trigger bad_texts_of_output is_bad template_in kind word_of word_front
another_schema = refl

schema_no_text : says (of ((codes "$schema", null) ∷ [])) Rule.Schema (codes "/$schema")
unfolding type_of form schema limits naming types lacking expressions run_after chars action_has_members trigger_has_members
    output_has_members bad_texts_of_action bad_texts_of_trigger bad_texts_of_output is_bad template_in kind word_of word_front
schema_no_text = refl

the_schema : fine (of ((
  codes "$schema",
  word (codes
      "https://schema.management.azure.com/providers/Microsoft.Logic/schemas/2016-06-01/workflowdefinition.json#"),
) ∷ []))
unfolding type_of form schema limits naming types lacking expressions run_after chars action_has_members trigger_has_members
    output_has_members bad_texts_of_action bad_texts_of_trigger bad_texts_of_output is_bad template_in kind word_of word_front
the_schema = refl

without_its_last_sign : fine (of ((
  codes "$schema",
  word (codes
      "https://schema.management.azure.com/providers/Microsoft.Logic/schemas/2016-06-01/workflowdefinition.json"),
) ∷ []))
unfolding type_of form schema limits naming types lacking expressions run_after chars action_has_members trigger_has_members
    output_has_members bad_texts_of_action bad_texts_of_trigger bad_texts_of_output is_bad template_in kind word_of word_front
without_its_last_sign = refl

with_two_signs : says (of ((
  codes "$schema",
  word (codes
      "https://schema.management.azure.com/providers/Microsoft.Logic/schemas/2016-06-01/workflowdefinition.json##"),
)
    ∷ [])) Rule.Schema (codes "/$schema")
unfolding type_of form schema limits naming types lacking expressions run_after chars action_has_members trigger_has_members
    output_has_members bad_texts_of_action bad_texts_of_trigger bad_texts_of_output is_bad template_in kind word_of word_front
with_two_signs = refl

-- the least rule, though its pointer is greater
form_before_schema : says (of ((codes "$schema", word (codes "x")) ∷ (codes "actions", one) ∷ [])) Rule.Form (codes "/actions")
unfolding type_of form schema limits naming types lacking expressions run_after chars action_has_members trigger_has_members
    output_has_members bad_texts_of_action bad_texts_of_trigger bad_texts_of_output is_bad template_in kind word_of word_front
form_before_schema = refl

-- ---- V3: limits

level_nine : says (graph (in_scope (codes "1") (in_scope (codes "2") (in_scope (codes "3") (in_scope (codes "4") (in_scope (codes "5")
    (in_scope (codes "6") (in_scope (codes "7") (in_scope (codes "8") (compose (codes "9") ∷ []) ∷ []) ∷ []) ∷ []) ∷ []) ∷ []) ∷ [])
    ∷ []) ∷ [])) Rule.Limits (codes "/actions/1/actions/2/actions/3/actions/4/actions/5/actions/6/actions/7/actions/8/actions/9")
unfolding type_of form schema limits naming types lacking expressions run_after chars action_has_members trigger_has_members
    output_has_members bad_texts_of_action bad_texts_of_trigger bad_texts_of_output is_bad template_in kind word_of word_front
level_nine = refl

abbrev times : {X : Type 0} → ℕ → X → List X
times zero x = []
times (suc n) x = x ∷ times n x

abbrev counted : ℕ → ℕ → Whole
counted actions variables = record { actions = actions; has_too_many_variables = nat_lt 250 variables; repeats = λ name. false }

actions_500 : limits (counted 500 250) Role.Definition (of []) ≡ []
unfolding limits
actions_500 = refl

actions_501 : limits (counted 501 0) Role.Definition (of []) ≡ codes "/actions" ∷ []
unfolding limits
actions_501 = refl

variables_251 : limits (counted 251 251) Role.Definition (of []) ≡ codes "/actions" ∷ []
unfolding limits
variables_251 = refl

names_of : map (λ a. a.0) (actions_of (graph (in_scope (codes "S") (compose (codes "B") ∷ []) ∷ compose (codes "T") ∷ [])))
    ≡ codes "S" ∷ codes "B" ∷ codes "T" ∷ []
unfolding type_of
names_of = refl

level_8 : limits (counted 8 0) (Role.Action 8) (of []) ≡ []
unfolding limits
level_8 = refl

level_9 : limits (counted 9 0) (Role.Action 9) (of []) ≡ [] ∷ []
unfolding limits
level_9 = refl

cases_25 : limits (counted 1 0) (Role.Cases 1) (of (times 25 (codes "c", of []))) ≡ []
unfolding limits
cases_25 = refl

cases_26 : limits (counted 1 0) (Role.Cases 1) (of (times 26 (codes "c", of []))) ≡ [] ∷ []
unfolding limits
cases_26 = refl

parameters_50 : limits (counted 0 0) Role.Definition (of ((codes "parameters", of (times 50 (codes "x", of []))) ∷ [])) ≡ []
unfolding limits
parameters_50 = refl

parameters_51 : limits (counted 0 0) Role.Definition (of ((codes "parameters", of (times 51 (codes "x", of []))) ∷ []))
    ≡ codes "/parameters" ∷ []
unfolding limits
parameters_51 = refl

triggers_10 : limits (counted 0 0) Role.Definition (of ((codes "triggers", of (times 10 (codes "x", of []))) ∷ [])) ≡ []
unfolding limits
triggers_10 = refl

triggers_11 : limits (counted 0 0) Role.Definition (of ((codes "triggers", of (times 11 (codes "x", of []))) ∷ [])) ≡ codes "/triggers" ∷ []
unfolding limits
triggers_11 = refl

outputs_10 : limits (counted 0 0) Role.Definition (of ((codes "outputs", of (times 10 (codes "x", of []))) ∷ [])) ≡ []
unfolding limits
outputs_10 = refl

outputs_11 : limits (counted 0 0) Role.Definition (of ((codes "outputs", of (times 11 (codes "x", of []))) ∷ [])) ≡ codes "/outputs" ∷ []
unfolding limits
outputs_11 = refl

-- ---- V4: names

characters_80 : is_name (times 80 65) ≡ true
unfolding chars
characters_80 = refl

characters_81 : is_name (times 81 65) ≡ false
unfolding chars
characters_81 = refl

-- characters count, and not bytes
accents_80 : is_name (codes "éééééééééééééééééééééééééééééééééééééééééééééééééééééééééééééééééééééééééééééééé") ≡ true
unfolding chars
accents_80 = refl

-- U+0080 is no control character here
above_127 : is_name (194 ∷ 128 ∷ []) ≡ true
unfolding chars
above_127 = refl

blank : is_name (codes " ") ≡ true
unfolding chars
blank = refl

below_blank : is_name (31 ∷ []) ≡ false
unfolding chars
below_blank = refl

all_names : says (of ((codes "parameters", of ((times 81 65, of []) ∷ [])) ∷ (codes "triggers", of ((codes "", of []) ∷ []))
    ∷ [])) Rule.Names (codes "/parameters/" ++ times 81 65)
unfolding type_of form schema limits naming types lacking expressions run_after chars action_has_members trigger_has_members
    output_has_members bad_texts_of_action bad_texts_of_trigger bad_texts_of_output is_bad template_in kind word_of word_front
all_names = refl

-- in the whole definition; both places offend
twice : says (graph (compose (codes "A") ∷ in_scope (codes "S") (compose (codes "A") ∷ []) ∷ [])) Rule.Names (codes "/actions/A")
unfolding type_of form schema limits naming types lacking expressions run_after chars action_has_members trigger_has_members
    output_has_members bad_texts_of_action bad_texts_of_trigger bad_texts_of_output is_bad template_in kind word_of word_front
twice = refl

in_both_branches : says (graph (action (codes "I") (codes "If") ((codes "actions", of (compose (codes "A") ∷ []))
    ∷ (codes "else", of ((codes "actions", of (compose (codes "A") ∷ [])) ∷ [])) ∷ (codes "expression", word (codes "x")) ∷ [])
    ∷ [])) Rule.Names (codes "/actions/I/actions/A")
unfolding type_of form schema limits naming types lacking expressions run_after chars action_has_members trigger_has_members
    output_has_members bad_texts_of_action bad_texts_of_trigger bad_texts_of_output is_bad template_in kind word_of word_front
in_both_branches = refl

empty_name : says (graph (compose (codes "") ∷ [])) Rule.Names (codes "/actions/")
unfolding type_of form schema limits naming types lacking expressions run_after chars action_has_members trigger_has_members
    output_has_members bad_texts_of_action bad_texts_of_trigger bad_texts_of_output is_bad template_in kind word_of word_front
empty_name = refl

empty_case : says (graph (action (codes "S") (codes "Switch") ((codes "cases", of ((codes "", of []) ∷ [])) ∷ [])
    ∷ [])) Rule.Names (codes "/actions/S/cases/")
unfolding type_of form schema limits naming types lacking expressions run_after chars action_has_members trigger_has_members
    output_has_members bad_texts_of_action bad_texts_of_trigger bad_texts_of_output is_bad template_in kind word_of word_front
empty_case = refl

control_character : says (of ((codes "parameters", of ((9 ∷ [], of []) ∷ [])) ∷ [])) Rule.Names (codes "/parameters/" ++ 9 ∷ [])
unfolding type_of form schema limits naming types lacking expressions run_after chars action_has_members trigger_has_members
    output_has_members bad_texts_of_action bad_texts_of_trigger bad_texts_of_output is_bad template_in kind word_of word_front
control_character = refl

delete_character : says (of ((codes "outputs", of ((127 ∷ [], of []) ∷ [])) ∷ [])) Rule.Names (codes "/outputs/" ++ 127 ∷ [])
unfolding type_of form schema limits naming types lacking expressions run_after chars action_has_members trigger_has_members
    output_has_members bad_texts_of_action bad_texts_of_trigger bad_texts_of_output is_bad template_in kind word_of word_front
delete_character = refl

-- ---- V5: types

unknown_type : says (graph (action (codes "A") (codes "Table") [] ∷ [])) Rule.Types (codes "/actions/A")
unfolding type_of form schema limits naming types lacking expressions run_after chars action_has_members trigger_has_members
    output_has_members bad_texts_of_action bad_texts_of_trigger bad_texts_of_output is_bad template_in kind word_of word_front
unknown_type = refl

no_type : says (graph ((codes "A", of []) ∷ [])) Rule.Types (codes "/actions/A")
unfolding type_of form schema limits naming types lacking expressions run_after chars action_has_members trigger_has_members
    output_has_members bad_texts_of_action bad_texts_of_trigger bad_texts_of_output is_bad template_in kind word_of word_front
no_type = refl

type_no_text : says (graph ((codes "A", of ((codes "type", one) ∷ [])) ∷ [])) Rule.Types (codes "/actions/A")
unfolding type_of form schema limits naming types lacking expressions run_after chars action_has_members trigger_has_members
    output_has_members bad_texts_of_action bad_texts_of_trigger bad_texts_of_output is_bad template_in kind word_of word_front
type_no_text = refl

batch : says (of ((codes "triggers", of ((codes "t", of ((codes "type", word (codes "BATCH")) ∷ [])) ∷ []))
    ∷ [])) Rule.Types (codes "/triggers/t")
unfolding type_of form schema limits naming types lacking expressions run_after chars action_has_members trigger_has_members
    output_has_members bad_texts_of_action bad_texts_of_trigger bad_texts_of_output is_bad template_in kind word_of word_front
batch = refl

trigger_without_a_type : says (of ((codes "triggers", of ((codes "t", of []) ∷ [])) ∷ [])) Rule.Types (codes "/triggers/t")
unfolding type_of form schema limits naming types lacking expressions run_after chars action_has_members trigger_has_members
    output_has_members bad_texts_of_action bad_texts_of_trigger bad_texts_of_output is_bad template_in kind word_of word_front
trigger_without_a_type = refl

trigger_of_an_empty_type : fine (of ((codes "triggers", of ((codes "t", of ((codes "type", word (codes "")) ∷ [])) ∷ [])) ∷ []))
unfolding type_of form schema limits naming types lacking expressions run_after chars action_has_members trigger_has_members
    output_has_members bad_texts_of_action bad_texts_of_trigger bad_texts_of_output is_bad template_in kind word_of word_front
trigger_of_an_empty_type = refl

-- variables have integers and parameters ints
parameter_type : says (of ((codes "parameters", of ((codes "p", of ((codes "type", word (codes "integer")) ∷ [])) ∷ []))
    ∷ [])) Rule.Types (codes "/parameters/p")
unfolding type_of form schema limits naming types lacking expressions run_after chars action_has_members trigger_has_members
    output_has_members bad_texts_of_action bad_texts_of_trigger bad_texts_of_output is_bad template_in kind word_of word_front
parameter_type = refl

parameter_int : fine (of ((codes "parameters", of ((codes "p", of ((codes "type", word (codes "Int")) ∷ [])) ∷ [])) ∷ []))
unfolding type_of form schema limits naming types lacking expressions run_after chars action_has_members trigger_has_members
    output_has_members bad_texts_of_action bad_texts_of_trigger bad_texts_of_output is_bad template_in kind word_of word_front
parameter_int = refl

parameter_string : fine (of ((codes "parameters", of ((codes "p", of ((codes "type", word (codes "String")) ∷ [])) ∷ [])) ∷ []))
unfolding type_of form schema limits naming types lacking expressions run_after chars action_has_members trigger_has_members
    output_has_members bad_texts_of_action bad_texts_of_trigger bad_texts_of_output is_bad template_in kind word_of word_front
parameter_string = refl

parameter_bool : fine (of ((codes "parameters", of ((codes "p", of ((codes "type", word (codes "BOOL")) ∷ [])) ∷ [])) ∷ []))
unfolding type_of form schema limits naming types lacking expressions run_after chars action_has_members trigger_has_members
    output_has_members bad_texts_of_action bad_texts_of_trigger bad_texts_of_output is_bad template_in kind word_of word_front
parameter_bool = refl

parameter_array : fine (of ((codes "parameters", of ((codes "p", of ((codes "type", word (codes "array")) ∷ [])) ∷ [])) ∷ []))
unfolding type_of form schema limits naming types lacking expressions run_after chars action_has_members trigger_has_members
    output_has_members bad_texts_of_action bad_texts_of_trigger bad_texts_of_output is_bad template_in kind word_of word_front
parameter_array = refl

parameter_object : fine (of ((codes "parameters", of ((codes "p", of ((codes "type", word (codes "object")) ∷ [])) ∷ [])) ∷ []))
unfolding type_of form schema limits naming types lacking expressions run_after chars action_has_members trigger_has_members
    output_has_members bad_texts_of_action bad_texts_of_trigger bad_texts_of_output is_bad template_in kind word_of word_front
parameter_object = refl

parameter_securestring : fine (of ((codes "parameters", of ((codes "p", of ((codes "type", word (codes "SecureString")) ∷ [])) ∷ [])) ∷ []))
unfolding type_of form schema limits naming types lacking expressions run_after chars action_has_members trigger_has_members
    output_has_members bad_texts_of_action bad_texts_of_trigger bad_texts_of_output is_bad template_in kind word_of word_front
parameter_securestring = refl

parameter_secureobject : fine (of ((codes "parameters", of ((codes "p", of ((codes "type", word (codes "secureObject")) ∷ [])) ∷ [])) ∷ []))
unfolding type_of form schema limits naming types lacking expressions run_after chars action_has_members trigger_has_members
    output_has_members bad_texts_of_action bad_texts_of_trigger bad_texts_of_output is_bad template_in kind word_of word_front
parameter_secureobject = refl

-- A lacks its inputs, and B is of an unknown type: the least rule before the least pointer
types_before_members : says (graph (action (codes "A") (codes "Compose") [] ∷ action (codes "B") (codes "Table") []
    ∷ [])) Rule.Types (codes "/actions/B")
unfolding type_of form schema limits naming types lacking expressions run_after chars action_has_members trigger_has_members
    output_has_members bad_texts_of_action bad_texts_of_trigger bad_texts_of_output is_bad template_in kind word_of word_front
types_before_members = refl

-- ---- V6: members

compose_without_inputs : says (graph (action (codes "A") (codes "Compose") [] ∷ [])) Rule.Members (codes "/actions/A")
unfolding type_of form schema limits naming types lacking expressions run_after chars action_has_members trigger_has_members
    output_has_members bad_texts_of_action bad_texts_of_trigger bad_texts_of_output is_bad template_in kind word_of word_front
compose_without_inputs = refl

scope_without_actions : says (graph (action (codes "S") (codes "Scope") [] ∷ [])) Rule.Members (codes "/actions/S")
unfolding type_of form schema limits naming types lacking expressions run_after chars action_has_members trigger_has_members
    output_has_members bad_texts_of_action bad_texts_of_trigger bad_texts_of_output is_bad template_in kind word_of word_front
scope_without_actions = refl

retry_91 : says (graph (action (codes "A") (codes "Http") ((
  codes "inputs",
  of ((
    codes "retryPolicy",
    of ((
      codes "count",
      number
          (pos 91),
    ) ∷ (codes "interval", word (codes "PT1S")) ∷ (codes "type", word (codes "fixed")) ∷ []),
  ) ∷ []),
) ∷ [])
    ∷ [])) Rule.Members (codes "/actions/A")
unfolding type_of form schema limits naming types lacking expressions run_after chars action_has_members trigger_has_members
    output_has_members bad_texts_of_action bad_texts_of_trigger bad_texts_of_output is_bad template_in kind word_of word_front
retry_91 = refl

retry_90 : fine (graph (action (codes "A") (codes "Http") ((
  codes "inputs",
  of ((
    codes "retryPolicy",
    of ((
      codes "count",
      number
          (pos 90),
    ) ∷ (codes "interval", word (codes "PT1S")) ∷ (codes "type", word (codes "fixed")) ∷ []),
  ) ∷ []),
) ∷ []) ∷ []))
unfolding type_of form schema limits naming types lacking expressions run_after chars action_has_members trigger_has_members
    output_has_members bad_texts_of_action bad_texts_of_trigger bad_texts_of_output is_bad template_in kind word_of word_front
retry_90 = refl

output_without_value : says (of ((codes "outputs", of ((codes "o", of []) ∷ [])) ∷ [])) Rule.Members (codes "/outputs/o")
unfolding type_of form schema limits naming types lacking expressions run_after chars action_has_members trigger_has_members
    output_has_members bad_texts_of_action bad_texts_of_trigger bad_texts_of_output is_bad template_in kind word_of word_front
output_without_value = refl

trigger_split_on : says (of ((
  codes "triggers",
  of ((
    codes "t",
    of ((codes "splitOn", one) ∷ (codes "type", word (codes "Request"))
        ∷ []),
  ) ∷ []),
) ∷ [])) Rule.Members (codes "/triggers/t")
unfolding type_of form schema limits naming types lacking expressions run_after chars action_has_members trigger_has_members
    output_has_members bad_texts_of_action bad_texts_of_trigger bad_texts_of_output is_bad template_in kind word_of word_front
trigger_split_on = refl

members_before_cycle : says (graph (waiting (codes "A") (codes "A" ∷ []) ∷ action (codes "B") (codes "Wait") []
    ∷ [])) Rule.Members (codes "/actions/B")
unfolding type_of form schema limits naming types lacking expressions run_after chars action_has_members trigger_has_members
    output_has_members bad_texts_of_action bad_texts_of_trigger bad_texts_of_output is_bad template_in kind word_of word_front
members_before_cycle = refl

-- ---- V7: expressions

too_few_arguments : expressions (Role.Action 1) (of ((codes "inputs", word (codes "@concat()"))
    ∷ (codes "type", word (codes "Compose")) ∷ [])) ≡ codes "/inputs" ∷ []
unfolding expressions bad_texts_of_action type_of is_bad template_in kind word_of word_front chars encode
too_few_arguments = refl

right_call : expressions (Role.Action 1) (of ((codes "inputs", word (codes "@not(true)")) ∷ (codes "type", word (codes "Compose"))
    ∷ [])) ≡ []
unfolding expressions bad_texts_of_action type_of is_bad template_in kind word_of word_front chars encode
right_call = refl

no_function : expressions (Role.Action 1) (of ((codes "inputs", word (codes "@nope(1)")) ∷ (codes "type", word (codes "Compose"))
    ∷ [])) ≡ codes "/inputs" ∷ []
unfolding expressions bad_texts_of_action type_of is_bad template_in kind word_of word_front chars encode
no_function = refl

no_template : says (graph (action (codes "A") (codes "Compose") ((codes "inputs", word (codes "@")) ∷ [])
    ∷ [])) Rule.Expressions (codes "/actions/A/inputs")
unfolding type_of form schema limits naming types lacking expressions run_after chars action_has_members trigger_has_members
    output_has_members bad_texts_of_action bad_texts_of_trigger bad_texts_of_output is_bad template_in kind word_of word_front
no_template = refl

deep_in_inputs : says (graph (action (codes "A") (codes "Compose") ((
  codes "inputs",
  list (trees (one
      ∷ of ((codes "k", word (codes "@(")) ∷ []) ∷ [])),
) ∷ []) ∷ [])) Rule.Expressions (codes "/actions/A/inputs/1/k")
unfolding type_of form schema limits naming types lacking expressions run_after chars action_has_members trigger_has_members
    output_has_members bad_texts_of_action bad_texts_of_trigger bad_texts_of_output is_bad template_in kind word_of word_front digits
deep_in_inputs = refl

in_tracked_properties : says (graph (action (codes "A") (codes "Compose") ((codes "inputs", one)
    ∷ (codes "trackedProperties", of ((codes "p/q", word (codes "@")) ∷ [])) ∷ [])
    ∷ [])) Rule.Expressions (codes "/actions/A/trackedProperties/p~1q")
unfolding type_of form schema limits naming types lacking expressions run_after chars action_has_members trigger_has_members
    output_has_members bad_texts_of_action bad_texts_of_trigger bad_texts_of_output is_bad template_in kind word_of word_front
in_tracked_properties = refl

in_an_output : says (of ((codes "outputs", of ((codes "o", of ((codes "value", word (codes "@")) ∷ [])) ∷ []))
    ∷ [])) Rule.Expressions (codes "/outputs/o/value")
unfolding type_of form schema limits naming types lacking expressions run_after chars action_has_members trigger_has_members
    output_has_members bad_texts_of_action bad_texts_of_trigger bad_texts_of_output is_bad template_in kind word_of word_front
in_an_output = refl

in_a_trigger : says (of ((
  codes "triggers",
  of ((
    codes "t",
    of ((codes "splitOn", word (codes "@"))
        ∷ (codes "type", word (codes "Request")) ∷ []),
  ) ∷ []),
) ∷ [])) Rule.Expressions (codes "/triggers/t/splitOn")
unfolding type_of form schema limits naming types lacking expressions run_after chars action_has_members trigger_has_members
    output_has_members bad_texts_of_action bad_texts_of_trigger bad_texts_of_output is_bad template_in kind word_of word_front
in_a_trigger = refl

-- no template is asked there
in_a_description : fine (graph (action (codes "A") (codes "Compose") ((codes "description", word (codes "@")) ∷ (codes "inputs", one)
    ∷ []) ∷ []))
unfolding type_of form schema limits naming types lacking expressions run_after chars action_has_members trigger_has_members
    output_has_members bad_texts_of_action bad_texts_of_trigger bad_texts_of_output is_bad template_in kind word_of word_front
in_a_description = refl

-- the least rule, though its pointer is greater
members_before_expressions : says (graph (action (codes "A") (codes "Compose") ((codes "inputs", word (codes "@")) ∷ [])
    ∷ action (codes "Z") (codes "Compose") [] ∷ [])) Rule.Members (codes "/actions/Z")
unfolding type_of form schema limits naming types lacking expressions run_after chars action_has_members trigger_has_members
    output_has_members bad_texts_of_action bad_texts_of_trigger bad_texts_of_output is_bad template_in kind word_of word_front
members_before_expressions = refl

least_expression : says (graph (action (codes "A") (codes "Compose") ((codes "inputs", of ((codes "x", word (codes "@")) ∷ [])) ∷ [])
    ∷ action (codes "A-") (codes "Compose") ((codes "inputs", word (codes "@")) ∷ []) ∷ [])) Rule.Expressions (codes "/actions/A-/inputs")
unfolding type_of form schema limits naming types lacking expressions run_after chars action_has_members trigger_has_members
    output_has_members bad_texts_of_action bad_texts_of_trigger bad_texts_of_output is_bad template_in kind word_of word_front
least_expression = refl

-- ---- V8: runAfter

a_cycle : says (graph (waiting (codes "A") (codes "B" ∷ []) ∷ waiting (codes "B") (codes "A" ∷ []) ∷ waiting (codes "C") (codes "B"
    ∷ []) ∷ [])) Rule.RunAfter (codes "/actions/A")
unfolding type_of form schema limits naming types lacking expressions run_after chars action_has_members trigger_has_members
    output_has_members bad_texts_of_action bad_texts_of_trigger bad_texts_of_output is_bad template_in kind word_of word_front
a_cycle = refl

-- A comes behind the cycle and is not on it
what_follows_a_cycle : says (graph (waiting (codes "A") (codes "B" ∷ []) ∷ waiting (codes "B") (codes "C" ∷ [])
    ∷ waiting (codes "C") (codes "B" ∷ []) ∷ [])) Rule.RunAfter (codes "/actions/B")
unfolding type_of form schema limits naming types lacking expressions run_after chars action_has_members trigger_has_members
    output_has_members bad_texts_of_action bad_texts_of_trigger bad_texts_of_output is_bad template_in kind word_of word_front
what_follows_a_cycle = refl

of_another_graph : says (graph (compose (codes "A") ∷ in_scope (codes "S") (waiting (codes "B") (codes "A" ∷ []) ∷ [])
    ∷ [])) Rule.RunAfter (codes "/actions/S/actions/B")
unfolding type_of form schema limits naming types lacking expressions run_after chars action_has_members trigger_has_members
    output_has_members bad_texts_of_action bad_texts_of_trigger bad_texts_of_output is_bad template_in kind word_of word_front
of_another_graph = refl

its_container : says (graph (in_scope (codes "S") (waiting (codes "B") (codes "S" ∷ []) ∷ [])
    ∷ [])) Rule.RunAfter (codes "/actions/S/actions/B")
unfolding type_of form schema limits naming types lacking expressions run_after chars action_has_members trigger_has_members
    output_has_members bad_texts_of_action bad_texts_of_trigger bad_texts_of_output is_bad template_in kind word_of word_front
its_container = refl

least_in_a_case : says (graph (action (codes "S") (codes "Switch") ((
  codes "cases",
  of ((
    codes "c",
    of ((
      codes "actions",
      of (waiting
          (codes "A") (codes "A" ∷ []) ∷ []),
    ) ∷ (codes "case", one) ∷ []),
  ) ∷ []),
)
    ∷ (codes "default", of ((codes "actions", of (waiting (codes "B") (codes "B" ∷ []) ∷ [])) ∷ []))
    ∷ (codes "expression", word (codes "a")) ∷ []) ∷ [])) Rule.RunAfter (codes "/actions/S/cases/c/actions/A")
unfolding type_of form schema limits naming types lacking expressions run_after chars action_has_members trigger_has_members
    output_has_members bad_texts_of_action bad_texts_of_trigger bad_texts_of_output is_bad template_in kind word_of word_front
least_in_a_case = refl

-- ---- files

bare : fault_of (of ((codes "actions", one) ∷ [])) ≡ Some (1, codes "/actions")
unfolding type_of form schema limits naming types lacking expressions run_after chars action_has_members trigger_has_members
    output_has_members bad_texts_of_action bad_texts_of_trigger bad_texts_of_output is_bad template_in kind word_of word_front
bare = refl

-- pointers are those within the definition
wrapped : fault_of (of ((codes "definition", of ((codes "actions", one) ∷ [])) ∷ (codes "kind", word (codes "Stateful")) ∷ []))
    ≡ Some (1, codes "/actions")
unfolding type_of form schema limits naming types lacking expressions run_after chars action_has_members trigger_has_members
    output_has_members bad_texts_of_action bad_texts_of_trigger bad_texts_of_output is_bad template_in kind word_of word_front
wrapped = refl

wrapped_and_fine : fault_of (of ((codes "definition", graph []) ∷ (codes "kind", word (codes "Stateful")) ∷ [])) ≡ None
unfolding type_of form schema limits naming types lacking expressions run_after chars action_has_members trigger_has_members
    output_has_members bad_texts_of_action bad_texts_of_trigger bad_texts_of_output is_bad template_in kind word_of word_front
wrapped_and_fine = refl

-- a wrapper, whatever else it has
wrapped_null : fault_of (of ((codes "actions", of []) ∷ (codes "definition", null) ∷ [])) ≡ Some (1, codes "")
unfolding type_of form schema limits naming types lacking expressions run_after chars action_has_members trigger_has_members
    output_has_members bad_texts_of_action bad_texts_of_trigger bad_texts_of_output is_bad template_in kind word_of word_front
wrapped_null = refl

-- a definition's own member `definition` is ignored
wrapped_twice : fault_of (of ((codes "definition", of ((codes "definition", null) ∷ [])) ∷ [])) ≡ None
unfolding type_of form schema limits naming types lacking expressions run_after chars action_has_members trigger_has_members
    output_has_members bad_texts_of_action bad_texts_of_trigger bad_texts_of_output is_bad template_in kind word_of word_front
wrapped_twice = refl

no_object_at_all : fault_of (list (trees [])) ≡ Some (1, codes "")
unfolding type_of form schema limits naming types lacking expressions run_after chars action_has_members trigger_has_members
    output_has_members bad_texts_of_action bad_texts_of_trigger bad_texts_of_output is_bad template_in kind word_of word_front
no_object_at_all = refl

cycle_in_a_file : fault_of (graph (waiting (codes "A") (codes "A" ∷ []) ∷ [])) ≡ Some (8, codes "/actions/A")
unfolding type_of form schema limits naming types lacking expressions run_after chars action_has_members trigger_has_members
    output_has_members bad_texts_of_action bad_texts_of_trigger bad_texts_of_output is_bad template_in kind word_of word_front
cycle_in_a_file = refl
