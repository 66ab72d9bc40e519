-- Worked actions, and what they are read as.
use Prim.Native.String.{String}
use Rattle.std.proofs.Common.{◌≡◌, ℕ, List, [], ◌∷◌, Bool, true, false, Option, Some, None, map, refl}
use Rattle.std.specs.Prelude.{codes, pos, neg_ℤ}
use Rattle.wf_val.specs.ValueTree.{ValueTree, Member, null, number, text, list, trees, object, members}
use Rattle.wf_template.specs.CondTree.{holds}
use Rattle.wf_template.specs.DataTree as datum
use Rattle.wf_template.specs.TemplateTree.{TemplateTree}
use Rattle.wf_leaves.specs.ActionType.{type_of}
use Rattle.wf_def.specs.ActionTree.{action, KindTree, compose, scope, branch, switch, switch_else, foreach, until, ActionTrees, no_actions, action_then, no_cases, case_then}
use Rattle.wf_def.specs.declared.after.After.{After}
use Rattle.wf_def.specs.declared.sort.Sort.{Sort}
use Rattle.wf_reading.specs.Afters.{afters_of}
use Rattle.wf_reading.specs.Graphs.{action_of, graph_of, kind_at}
use Rattle.wf_reading.specs.Numbers.{number_among}
use Rattle.wf_reading.specs.Sections.{given_in, output_of, parameter_of, trigger_of}
use Rattle.wf_leaves.specs.Texts.{template_of}
use Rattle.wf_reading.specs.Meant.{definition_of}
use Rattle.sha2.specs.Sha256.{sha256}
use Rattle.wf_form.specs.Json.{json}
use Rattle.wf_def.specs.DefTree.{DefTree}

abbrev word : String → ValueTree
word s = text (codes s)

abbrev whole : ℕ → ValueTree
whole n = number (pos n)

abbrev fields : List Member → ValueTree
fields ms = object (members ms)

abbrev spelled : String → TemplateTree
spelled s = template_of (codes s)

abbrev datum_of : String → datum.DataTree
datum_of s = datum.text (spelled s)

-- the kind of an action with these members
abbrev kind : List Member → KindTree
kind ms = kind_at (λ k. 0) [] (fields ms)

-- one with these inputs, of a type
abbrev with_inputs : List Member → String → KindTree
with_inputs inputs s = kind ((codes "inputs", fields inputs) ∷ (codes "type", word s) ∷ [])

-- ---- containers; the graphs in them have their pointers from the container's

abbrev leaf : ValueTree
leaf = fields ((codes "inputs", whole 1) ∷ (codes "type", word "Compose") ∷ [])

-- a graph of one such action
abbrev graph : String → ValueTree
graph s = fields ((codes s, leaf) ∷ [])

abbrev read : String → String → ActionTrees
read s pointer = action_then (action (codes s) 0 (codes pointer) [] (compose (datum.number (pos 1))) []) no_actions

abbrev at : List Member → KindTree
at ms = kind_at (λ k. 0) (codes "/actions/X") (fields ms)

a_scope : at ((codes "actions", graph "A") ∷ (codes "else", fields ((codes "actions", graph "B") ∷ [])) ∷ (codes "type", word "Scope") ∷ []) ≡ scope (read "A" "/actions/X/actions/A")
unfolding type_of
a_scope = refl

an_if : at ((codes "actions", graph "A") ∷ (codes "else", fields ((codes "actions", graph "B") ∷ [])) ∷ (codes "expression", word "e") ∷ (codes "type", word "If") ∷ [])
    ≡ branch (holds (spelled "e")) (read "A" "/actions/X/actions/A") (read "B" "/actions/X/else/actions/B")
unfolding type_of
an_if = refl

an_if_alone : at ((codes "expression", word "e") ∷ (codes "type", word "If") ∷ []) ≡ branch (holds (spelled "e")) no_actions no_actions
unfolding type_of
an_if_alone = refl

-- a case's value is no template; a default without actions is an empty graph, and none is none
abbrev case : String → ValueTree → ValueTree
case s v = fields ((codes "actions", graph s) ∷ (codes "case", v) ∷ [])

a_switch : at ((codes "cases", fields ((codes "k/1", case "A" (word "@x")) ∷ (codes "k2", case "B" (whole 2)) ∷ [])) ∷ (codes "default", fields []) ∷ (codes "expression", word "e") ∷ (codes "type", word "Switch") ∷ [])
    ≡ switch_else (spelled "e") (case_then (codes "k/1") (word "@x") (read "A" "/actions/X/cases/k~11/actions/A") (case_then (codes "k2") (whole 2) (read "B" "/actions/X/cases/k2/actions/B") no_cases)) no_actions
unfolding type_of
a_switch = refl

a_switch_with_default : at ((codes "cases", fields []) ∷ (codes "default", fields ((codes "actions", graph "D") ∷ [])) ∷ (codes "expression", word "e") ∷ (codes "type", word "Switch") ∷ [])
    ≡ switch_else (spelled "e") no_cases (read "D" "/actions/X/default/actions/D")
unfolding type_of
a_switch_with_default = refl

a_switch_without : at ((codes "cases", fields []) ∷ (codes "expression", word "e") ∷ (codes "type", word "switch") ∷ []) ≡ switch (spelled "e") no_cases
unfolding type_of
a_switch_without = refl

abbrev paced : ValueTree → ValueTree
paced n = fields ((codes "concurrency", fields ((codes "repetitions", n) ∷ [])) ∷ [])

a_foreach : at ((codes "actions", graph "A") ∷ (codes "foreach", word "f") ∷ (codes "type", word "Foreach") ∷ []) ≡ foreach (datum_of "f") 20 (read "A" "/actions/X/actions/A")
unfolding type_of
a_foreach = refl

a_foreach_of_a_list : at ((codes "foreach", list (trees (whole 1 ∷ []))) ∷ (codes "runtimeConfiguration", paced (whole 1)) ∷ (codes "type", word "Foreach") ∷ [])
    ≡ foreach (datum.list (datum.data_trees (datum.number (pos 1) ∷ []))) 1 no_actions
unfolding type_of
a_foreach_of_a_list = refl

fifty_at_a_time : at ((codes "foreach", word "f") ∷ (codes "runtimeConfiguration", paced (whole 50)) ∷ (codes "type", word "Foreach") ∷ []) ≡ foreach (datum_of "f") 50 no_actions
unfolding type_of
fifty_at_a_time = refl

-- whatever the repetitions are, the option makes them one
one_at_a_time : at ((codes "foreach", word "f") ∷ (codes "operationOptions", word "x, SEQUENTIAL ") ∷ (codes "runtimeConfiguration", paced (whole 50)) ∷ (codes "type", word "Foreach") ∷ []) ≡ foreach (datum_of "f") 1 no_actions
unfolding type_of
one_at_a_time = refl

an_until : at ((codes "actions", graph "A") ∷ (codes "expression", word "e") ∷ (codes "type", word "Until") ∷ []) ≡ until (holds (spelled "e")) 60 false (read "A" "/actions/X/actions/A")
unfolding type_of
an_until = refl

an_until_of_one : at ((codes "expression", word "e") ∷ (codes "limit", fields ((codes "count", whole 1) ∷ (codes "timeout", word "PT1H") ∷ [])) ∷ (codes "operationOptions", word "failWhenLimitsReached") ∷ (codes "type", word "Until") ∷ [])
    ≡ until (holds (spelled "e")) 1 true no_actions
unfolding type_of
an_until_of_one = refl

an_until_of_many : at ((codes "expression", word "e") ∷ (codes "limit", fields ((codes "count", whole 5000) ∷ [])) ∷ (codes "type", word "Until") ∷ []) ≡ until (holds (spelled "e")) 5000 false no_actions
unfolding type_of
an_until_of_many = refl

-- a limit without a count
an_until_of_a_time : at ((codes "expression", word "e") ∷ (codes "limit", fields ((codes "timeout", word "PT1H") ∷ [])) ∷ (codes "type", word "Until") ∷ []) ≡ until (holds (spelled "e")) 60 false no_actions
unfolding type_of
an_until_of_a_time = refl

-- ---- numbers

abbrev some_names : List (List ℕ)
some_names = codes "b" ∷ codes "B" ∷ codes "a~" ∷ codes "a" ∷ []

-- by bytes, from 0: capitals before small letters, a name before what it begins
numbers : map (number_among some_names) some_names ≡ 3 ∷ 0 ∷ 2 ∷ 1 ∷ []
numbers = refl

-- over nested graphs: N in the Scope S is before S, and Z behind it
abbrev nested : ValueTree
nested = fields ((codes "S", fields ((codes "actions", graph "N") ∷ (codes "type", word "Scope") ∷ [])) ∷ (codes "Z", leaf) ∷ [])

numbers_of_nested : graph_of (number_among (codes "S" ∷ codes "N" ∷ codes "Z" ∷ [])) (codes "/actions") nested
    ≡ action_then (action (codes "S") 1 (codes "/actions/S") [] (scope (action_then (action (codes "N") 0 (codes "/actions/S/actions/N") [] (compose (datum.number (pos 1))) []) no_actions)) [])
    (action_then (action (codes "Z") 2 (codes "/actions/Z") [] (compose (datum.number (pos 1))) []) no_actions)
unfolding type_of
numbers_of_nested = refl

-- ---- what an action waits for

abbrev statuses : Bool → Bool → Bool → Bool → After
statuses succeeded failed skipped timed_out = record {
  name = codes "a";
  number = 1;
  statuses = record { succeeded = succeeded; failed = failed; skipped = skipped; timed_out = timed_out };
}

abbrev waits : List ValueTree → List After
waits ts = afters_of (number_among some_names) (Some (fields ((codes "a", list (trees ts)) ∷ [])))

waits_for : waits (word "SUCCEEDED" ∷ []) ∷ waits (word "failed" ∷ []) ∷ waits (word "Skipped" ∷ []) ∷ waits (word "timedOUT" ∷ []) ∷ waits [] ∷ waits (word "TimedOut" ∷ word "Succeeded" ∷ word "Succeeded" ∷ []) ∷ []
    ≡ (statuses true false false false ∷ []) ∷ (statuses false true false false ∷ []) ∷ (statuses false false true false ∷ []) ∷ (statuses false false false true ∷ [])
    ∷ (statuses false false false false ∷ []) ∷ (statuses true false false true ∷ []) ∷ []
waits_for = refl

waits_for_nothing : afters_of (number_among some_names) None ≡ []
waits_for_nothing = refl

-- tracked properties
tracked : action_of (λ k. 7) (codes "/actions/X") (codes "X") (fields ((codes "inputs", null) ∷ (codes "trackedProperties", fields ((codes "p", word "t") ∷ [])) ∷ (codes "type", word "Compose") ∷ []))
    ≡ action (codes "X") 7 (codes "/actions/X") [] (compose datum.null) ((codes "p", datum_of "t") ∷ [])
unfolding type_of
tracked = refl

-- ---- sections

abbrev parameter : String → Sort
parameter s = (parameter_of (codes "p", fields ((codes "type", word s) ∷ []))).sort

parameter_types : parameter "Int" ∷ parameter "String" ∷ parameter "SecureString" ∷ parameter "bool" ∷ parameter "ARRAY" ∷ parameter "object" ∷ parameter "SecureObject" ∷ []
    ≡ Sort.Int ∷ Sort.Text ∷ Sort.Text ∷ Sort.Bool ∷ Sort.List ∷ Sort.Obj ∷ Sort.Obj ∷ []
parameter_types = refl

-- texts of parameters are no templates, and a default may be null
a_parameter : parameter_of (codes "p", fields ((codes "allowedValues", list (trees (word "@a" ∷ null ∷ []))) ∷ (codes "defaultValue", null) ∷ (codes "type", word "String") ∷ []))
    ≡ record { name = codes "p"; sort = Sort.Text; default = Some null; allowed = Some (word "@a" ∷ null ∷ []) }
a_parameter = refl

a_parameter_alone : parameter_of (codes "p", fields ((codes "type", word "Int") ∷ [])) ≡ record { name = codes "p"; sort = Sort.Int; default = None; allowed = None }
a_parameter_alone = refl

a_trigger : trigger_of (codes "t", fields ((codes "conditions", list (trees (fields ((codes "expression", word "c") ∷ []) ∷ fields ((codes "expression", word "d") ∷ []) ∷ []))) ∷ (codes "splitOn", word "s") ∷ (codes "type", word "Request") ∷ []))
    ≡ record { name = codes "t"; split = Some (spelled "s"); conditions = spelled "c" ∷ spelled "d" ∷ [] }
a_trigger = refl

a_trigger_alone : trigger_of (codes "t", fields ((codes "type", word "Request") ∷ [])) ≡ record { name = codes "t"; split = None; conditions = [] }
a_trigger_alone = refl

an_output : output_of (codes "o", fields ((codes "type", word "String") ∷ (codes "value", word "v") ∷ [])) ≡ record { name = codes "o"; value = datum_of "v" }
an_output = refl

-- of what a wrapper gives, what is no object with a value gives nothing
given : given_in ((codes "p", fields ((codes "value", whole 1) ∷ [])) ∷ (codes "q", whole 2) ∷ (codes "r", fields []) ∷ (codes "s", fields ((codes "value", null) ∷ [])) ∷ []) []
    ≡ (codes "p", whole 1) ∷ (codes "s", null) ∷ []
given = refl

-- ---- files

abbrev definition : ValueTree
definition = fields ((codes "actions", nested)
    ∷ (codes "outputs", fields ((codes "o", fields ((codes "value", word "v") ∷ [])) ∷ []))
    ∷ (codes "parameters", fields ((codes "p", fields ((codes "type", word "Int") ∷ [])) ∷ []))
    ∷ (codes "triggers", fields ((codes "t", fields ((codes "type", word "Request") ∷ [])) ∷ []))
    ∷ [])

abbrev meant : List Member → DefTree
meant given = record {
  digest = sha256 (json definition);
  parameters = record { name = codes "p"; sort = Sort.Int; default = None; allowed = None } ∷ [];
  given = given;
  triggers = record { name = codes "t"; split = None; conditions = [] } ∷ [];
  top = action_then (action (codes "S") 1 (codes "/actions/S") [] (scope (action_then (action (codes "N") 0 (codes "/actions/S/actions/N") [] (compose (datum.number (pos 1))) []) no_actions)) [])
      (action_then (action (codes "Z") 2 (codes "/actions/Z") [] (compose (datum.number (pos 1))) []) no_actions);
  outputs = record { name = codes "o"; value = datum_of "v" } ∷ [];
}

-- a file that is the definition
a_bare_file : definition_of definition ≡ meant []
unfolding type_of
a_bare_file = refl

-- a wrapper: the digest is that of the definition in it, pointers go from there, and it gives values also to what isn't declared
a_wrapped_file : definition_of (fields ((codes "definition", definition) ∷ (codes "kind", word "Stateful")
    ∷ (codes "parameters", fields ((codes "p", fields ((codes "value", whole 5) ∷ [])) ∷ (codes "q", fields ((codes "value", null) ∷ [])) ∷ [])) ∷ []))
    ≡ meant ((codes "p", whole 5) ∷ (codes "q", null) ∷ [])
unfolding type_of
a_wrapped_file = refl

-- what stands beside `parameters` gives nothing, nor does one that is no object
a_wrapper_that_gives_nothing : definition_of (fields ((codes "definition", definition) ∷ (codes "parameters", whole 1) ∷ [])) ≡ meant []
unfolding type_of
a_wrapper_that_gives_nothing = refl

-- an empty definition
an_empty_file : (definition_of (fields [])).top ≡ no_actions
an_empty_file = refl

-- a bare file gives its parameters nothing, even where one of them has a `value`, as a wrapper's have
abbrev bare : ValueTree
bare = fields ((codes "parameters", fields ((codes "p", fields ((codes "type", word "Int") ∷ (codes "value", whole 5) ∷ [])) ∷ [])) ∷ [])

a_bare_file_gives_nothing : (definition_of bare).given ≡ []
a_bare_file_gives_nothing = refl

-- nor does the definition in a wrapper; what the wrapper gives stands beside it
a_definition_in_a_wrapper_gives_nothing : (definition_of (fields ((codes "definition", bare) ∷ []))).given ≡ []
a_definition_in_a_wrapper_gives_nothing = refl

a_wrapper_gives : (definition_of (fields ((codes "definition", bare)
    ∷ (codes "parameters", fields ((codes "q", fields ((codes "value", whole 7) ∷ [])) ∷ [])) ∷ []))).given ≡ (codes "q", whole 7) ∷ []
a_wrapper_gives = refl
