-- Uses of worked expressions, texts, values and conditions, where a reader can work them out: each function that is asked of.
use Rattle.std.proofs.Common.{◌≡◌, [], ◌∷◌, true, false, refl}
use Rattle.std.specs.Prelude.{codes, pos}
use Rattle.wf_val.specs.ValueTree as value
use Rattle.wf_val.specs.declared.function.Fun.{Fun}
use Rattle.wf_template.specs.ExprTree.{literal, member, index}
use Rattle.wf_template.specs.TemplateTree.{letters, part, plain, whole, parts}
use Rattle.wf_template.specs.DataTree.{null, number, list, object, data_trees, data_members}
use Rattle.wf_template.specs.CondTree.{all_of, any_of, not_of, compare_by, cond_trees}
use Rattle.wf_uses.specs.UsesTree.{ordered}
use Rattle.wf_refs.proofs.UseWords.{asked, calls, data_of, none, of, of_condition, of_text, of_value, only, out, quoted, test_of}

-- ---- each function

actions : of (asked "actions" "A") ≡ record none { names = only "A" }
actions = refl

outputs : of (asked "outputs" "A") ≡ record none { names = only "A" }
outputs = refl

body : of (asked "body" "A") ≡ record none { names = only "A" }
body = refl

result : of (asked "result" "S") ≡ record none { results = only "S" }
result = refl

variables : of (asked "variables" "v") ≡ record none { reads = only "v" }
variables = refl

parameters : of (asked "parameters" "p") ≡ record none { parameters = only "p" }
parameters = refl

items : of (asked "items" "L") ≡ record none { items = only "L" }
items = refl

indexes : of (asked "iterationIndexes" "U") ≡ record none { indexes = only "U" }
indexes = refl

item : of (calls "item" []) ≡ record none { item = true }
item = refl

own : of (calls "action" []) ≡ record none { own = true }
own = refl

guid : of (calls "guid" []) ≡ record none { words = true }
guid = refl

rand : of (calls "rand" (literal (value.number (pos 1)) ∷ literal (value.number (pos 2)) ∷ [])) ≡ record none { words = true }
rand = refl

utc_now : of (calls "utcNow" []) ≡ record none { moment = true }
utc_now = refl

future : of (calls "getFutureTime" (literal (value.number (pos 1)) ∷ quoted "Day" ∷ [])) ≡ record none { moment = true }
future = refl

past : of (calls "getPastTime" (literal (value.number (pos 1)) ∷ quoted "Day" ∷ [])) ≡ record none { moment = true }
past = refl

workflow : of (calls "workflow" []) ≡ record none { run = true }
workflow = refl

-- what is asked of a trigger is no use that a rule looks at
trigger : of (calls "trigger" []) ≡ none
trigger = refl

trigger_outputs : of (calls "triggerOutputs" []) ≡ none
trigger_outputs = refl

trigger_body : of (calls "triggerBody" []) ≡ none
trigger_body = refl

-- functions of values ask for nothing themselves, and what they are handed does
of_values : of (calls "concat" (quoted "A" ∷ out "B" ∷ [])) ≡ record none { names = only "B" }
of_values = refl

in_an_arm : of (calls "if" (out "A" ∷ asked "variables" "v" ∷ asked "items" "L" ∷ []))
    ≡ record none { names = only "A"; reads = only "v"; items = only "L" }
in_an_arm = refl

in_a_time : of (calls "utcNow" (asked "parameters" "p" ∷ [])) ≡ record none { parameters = only "p"; moment = true }
in_a_time = refl

in_a_word : of (calls "guid" (asked "body" "A" ∷ [])) ≡ record none { names = only "A"; words = true }
in_a_word = refl

-- ---- names of functions are without letter case, names of what they are asked for aren't

upper_case : of (asked "OUTPUTS" "A") ≡ record none { names = only "A" }
upper_case = refl

mixed_case : of (asked "ITERATIONindexes" "U") ≡ record none { indexes = only "U" }
mixed_case = refl

item_case : of (calls "ITEM" []) ≡ record none { item = true }
item_case = refl

two_cases : of (calls "concat" (out "a" ∷ out "A" ∷ [])) ≡ record none { names = codes "A" ∷ codes "a" ∷ [] }
two_cases = refl

-- no function has such a name, and what it is handed is asked for all the same
no_function : of (calls "outputs2" (quoted "A" ∷ asked "variables" "v" ∷ [])) ≡ record none { reads = only "v" }
no_function = refl

-- a name stands for a part of an action in faults alone
no_call : of (asked "foreach" "A") ≡ none
no_call = refl

-- ---- the name is the first argument, where that is a literal text

second_argument : of (calls "outputs" (quoted "A" ∷ quoted "B" ∷ [])) ≡ record none { names = only "A" }
second_argument = refl

more_arguments : of (calls "outputs" (quoted "A" ∷ asked "variables" "v" ∷ [])) ≡ record none { names = only "A"; reads = only "v" }
more_arguments = refl

no_argument : of (calls "outputs" []) ≡ none
no_argument = refl

not_literal : of (calls "outputs" (asked "variables" "v" ∷ [])) ≡ record none { reads = only "v" }
not_literal = refl

not_a_text : of (calls "outputs" (literal (value.number (pos 1)) ∷ [])) ≡ none
not_a_text = refl

literal_call : of (quoted "outputs('A')") ≡ none
literal_call = refl

-- ---- in order, each once

no_names : ordered [] ≡ []
no_names = refl

in_order : ordered (codes "b" ∷ codes "ab" ∷ [] ∷ codes "a" ∷ codes "B" ∷ []) ≡ [] ∷ codes "B" ∷ codes "a" ∷ codes "ab" ∷ codes "b" ∷ []
in_order = refl

once : ordered (codes "b" ∷ codes "a" ∷ codes "b" ∷ codes "a" ∷ codes "b" ∷ []) ≡ codes "a" ∷ codes "b" ∷ []
once = refl

twice : of (calls "concat" (asked "body" "A" ∷ out "A" ∷ asked "actions" "A" ∷ out "A" ∷ [])) ≡ record none { names = only "A" }
twice = refl

-- a name may be that of an action, of a container, of a variable and of a loop at once
of_each_kind : of (calls "concat" (out "A" ∷ asked "result" "A" ∷ asked "variables" "A" ∷ asked "items" "A" ∷ []))
    ≡ record none { names = only "A"; results = only "A"; reads = only "A"; items = only "A" }
of_each_kind = refl

-- ---- accesses

of_a_member : of (member (member (out "A") (codes "B") false) (codes "C") true) ≡ record none { names = only "A" }
of_a_member = refl

of_a_key : of (index (out "B") (out "A") false) ≡ record none { names = codes "A" ∷ codes "B" ∷ [] }
of_a_key = refl

of_keys : of (index (index (quoted "x") (asked "variables" "v") true) (index (out "A") (calls "item" []) false) false)
    ≡ record none { names = only "A"; reads = only "v"; item = true }
of_keys = refl

deep_inside : of
    (calls "add" (calls "length" (calls "body" (quoted "A" ∷ []) ∷ []) ∷ member (calls "json" (out "B" ∷ [])) (codes "x") false ∷ []))
    ≡ record none { names = codes "A" ∷ codes "B" ∷ [] }
deep_inside = refl

-- ---- texts, values, conditions

of_plain : of_text (plain (codes "outputs('A')")) ≡ none
of_plain = refl

of_whole : of_text (whole (out "A")) ≡ record none { names = only "A" }
of_whole = refl

of_parts : of_text (parts (letters (codes "outputs('C')") ∷ part (out "B") ∷ letters [] ∷ part (out "A") ∷ []))
    ≡ record none { names = codes "A" ∷ codes "B" ∷ [] }
of_parts = refl

of_scalars : of_value (list (data_trees (null ∷ number (pos 1) ∷ []))) ≡ none
of_scalars = refl

of_items : of_value (list (data_trees (data_of "B" ∷ list (data_trees (data_of "A" ∷ [])) ∷ [])))
    ≡ record none { names = codes "A" ∷ codes "B" ∷ [] }
of_items = refl

-- the name of a member is no template
of_members : of_value
    (object (data_members ((codes "@outputs('C')", data_of "B") ∷ (codes "x", list (data_trees (data_of "A" ∷ []))) ∷ [])))
    ≡ record none { names = codes "A" ∷ codes "B" ∷ [] }
of_members = refl

of_and : of_condition (all_of (cond_trees (test_of "B" ∷ test_of "A" ∷ []))) ≡ record none { names = codes "A" ∷ codes "B" ∷ [] }
of_and = refl

of_or : of_condition (any_of (cond_trees (test_of "B" ∷ any_of (cond_trees []) ∷ test_of "A" ∷ [])))
    ≡ record none { names = codes "A" ∷ codes "B" ∷ [] }
of_or = refl

of_not : of_condition (not_of (not_of (test_of "A"))) ≡ record none { names = only "A" }
of_not = refl

of_compared : of_condition (compare_by Fun.Equals (data_of "B") (list (data_trees (data_of "A" ∷ []))))
    ≡ record none { names = codes "A" ∷ codes "B" ∷ [] }
of_compared = refl
