-- Worked values, conditions and options, and what they are read as.
use Prim.Native.String.{String}
use Rattle.std.proofs.Common.{◌≡◌, ℕ, List, [], ◌∷◌, Bool, true, false, Option, Some, None, map, refl}
use Rattle.std.specs.Prelude.{codes, pos, neg_ℤ}
use Rattle.wf_val.specs.ValueTree.{ValueTree, Member, null, boolean, number, text, list, trees, object, members}
use Rattle.wf_val.specs.declared.function.Fun.{Fun}
use Rattle.wf_template.specs.CondTree.{holds, all_of, any_of, not_of, compare_by, cond_trees}
use Rattle.wf_template.specs.DataTree as datum
use Rattle.wf_template.specs.TemplateTree.{TemplateTree}
use Rattle.wf_kinds.specs.Policy.{Policy}
use Rattle.wf_kinds.specs.ActionType.{type_of}
use Rattle.wf_kinds.specs.declared.action_type.ActionType.{ActionType}
use Rattle.wf_def.specs.ActionTree.{InitialTree, KindTree, compose, connector, wait, response, terminate, select, query, join, parse_json, initialize, set_to, increment, decrement, append_array, append_string}
use Rattle.wf_def.specs.declared.sort.Sort.{Sort}
use Rattle.wf_leaves.specs.Conditions.{condition_of}
use Rattle.wf_leaves.specs.Leaves.{leaf_of, nothing}
use Rattle.wf_leaves.specs.Options.{lists_option}
use Rattle.wf_leaves.specs.Texts.{template_of}

abbrev word : String → ValueTree
word s = text (codes s)

abbrev whole : ℕ → ValueTree
whole n = number (pos n)

abbrev fields : List Member → ValueTree
fields ms = object (members ms)

abbrev spelled : String → TemplateTree
spelled s = template_of (codes s)

abbrev datum_of : String → datum.DataTree
datum_of s = datum.text (spelled s)

abbrev kind_by : Option ActionType → ValueTree → KindTree
kind_by None t = nothing
kind_by (Some action_type) t = leaf_of action_type t

-- the kind of an action with these members
abbrev kind : List Member → KindTree
kind ms = kind_by (type_of (fields ms)) (fields ms)

-- one with these inputs, of a type
abbrev with_inputs : List Member → String → KindTree
with_inputs inputs s = kind ((codes "inputs", fields inputs) ∷ (codes "type", word s) ∷ [])

-- ---- what holds no graph

a_compose : kind ((codes "inputs", word "hi") ∷ (codes "type", word "cOMPOSE") ∷ []) ≡ compose (datum_of "hi")
unfolding type_of
a_compose = refl

a_compose_of_null : kind ((codes "inputs", null) ∷ (codes "type", word "Compose") ∷ []) ≡ compose datum.null
unfolding type_of
a_compose_of_null = refl

-- names of members are no templates
a_compose_of_all : with_inputs ((codes "@a", list (trees (boolean true ∷ number (neg_ℤ (pos 1)) ∷ word "@b" ∷ []))) ∷ []) "Compose"
    ≡ compose (datum.object (datum.data_members ((codes "@a", datum.list (datum.data_trees (datum.boolean true ∷ datum.number (neg_ℤ (pos 1)) ∷ datum_of "@b" ∷ []))) ∷ [])))
unfolding type_of
a_compose_of_all = refl

-- the policy is taken out of the inputs, but not out of what stands in them
a_connector : with_inputs ((codes "body", fields ((codes "retryPolicy", word "x") ∷ [])) ∷ (codes "method", word "GET") ∷ (codes "retryPolicy", fields ((codes "type", word "none") ∷ [])) ∷ []) "ApiConnection"
    ≡ connector (datum.object (datum.data_members ((codes "body", datum.object (datum.data_members ((codes "retryPolicy", datum_of "x") ∷ []))) ∷ (codes "method", datum_of "GET") ∷ []))) Policy.Never
unfolding type_of
a_connector = refl

a_connector_of_standard : with_inputs ((codes "uri", word "u") ∷ []) "http" ≡ connector (datum.object (datum.data_members ((codes "uri", datum_of "u") ∷ []))) Policy.Standard
unfolding type_of
a_connector_of_standard = refl

a_connector_by_count : with_inputs ((codes "retryPolicy", fields ((codes "count", whole 7) ∷ (codes "interval", word "PT1S") ∷ (codes "type", word "Fixed") ∷ [])) ∷ []) "Function"
    ≡ connector (datum.object (datum.data_members [])) (Policy.Count 7)
unfolding type_of
a_connector_by_count = refl

-- only a connector has one
a_wait : with_inputs ((codes "retryPolicy", word "x") ∷ []) "Wait" ≡ wait (datum.object (datum.data_members ((codes "retryPolicy", datum_of "x") ∷ [])))
unfolding type_of
a_wait = refl

a_response : with_inputs ((codes "statusCode", whole 200) ∷ []) "Response" ≡ response (datum.object (datum.data_members ((codes "statusCode", datum.number (pos 200)) ∷ [])))
unfolding type_of
a_response = refl

a_terminate : with_inputs ((codes "runStatus", word "Failed") ∷ []) "Terminate" ≡ terminate (datum.object (datum.data_members ((codes "runStatus", datum_of "Failed") ∷ [])))
unfolding type_of
a_terminate = refl

-- members that aren't asked for are no part of it
a_select : with_inputs ((codes "from", word "f") ∷ (codes "other", word "o") ∷ (codes "select", word "s") ∷ []) "Select" ≡ select (datum_of "f") (datum_of "s")
unfolding type_of
a_select = refl

a_query : with_inputs ((codes "from", word "f") ∷ (codes "where", word "w") ∷ []) "Query" ≡ query (datum_of "f") (spelled "w")
unfolding type_of
a_query = refl

a_join : with_inputs ((codes "from", word "f") ∷ (codes "joinWith", word "j") ∷ []) "Join" ≡ join (datum_of "f") (datum_of "j")
unfolding type_of
a_join = refl

a_parse_json : with_inputs ((codes "content", word "c") ∷ []) "ParseJson" ≡ parse_json (datum_of "c") None
unfolding type_of
a_parse_json = refl

-- a variable's name is no template; a value that is null is a value
abbrev variable : List Member → ValueTree
variable ms = fields ((codes "variables", list (trees (fields ms ∷ []))) ∷ [])

abbrev first : KindTree → Option InitialTree
first (initialize (i ∷ is)) = Some i
first k = None

abbrev initial : List Member → Option InitialTree
initial ms = first (kind ((codes "inputs", variable ms) ∷ (codes "type", word "InitializeVariable") ∷ []))

a_boolean : initial ((codes "name", word "@v") ∷ (codes "type", word "BOOLEAN") ∷ []) ≡ Some (record { name = codes "@v"; sort = Sort.Bool; value = None })
unfolding type_of
a_boolean = refl

an_integer : initial ((codes "name", word "v") ∷ (codes "type", word "Integer") ∷ (codes "value", null) ∷ []) ≡ Some (record { name = codes "v"; sort = Sort.Int; value = Some datum.null })
unfolding type_of
an_integer = refl

a_string : initial ((codes "name", word "v") ∷ (codes "type", word "string") ∷ (codes "value", word "x") ∷ []) ≡ Some (record { name = codes "v"; sort = Sort.Text; value = Some (datum_of "x") })
unfolding type_of
a_string = refl

an_array : initial ((codes "name", word "v") ∷ (codes "type", word "array") ∷ []) ≡ Some (record { name = codes "v"; sort = Sort.List; value = None })
unfolding type_of
an_array = refl

an_object : initial ((codes "name", word "v") ∷ (codes "type", word "object") ∷ []) ≡ Some (record { name = codes "v"; sort = Sort.Obj; value = None })
unfolding type_of
an_object = refl

abbrev named : String → KindTree
named s = with_inputs ((codes "name", word "v") ∷ (codes "value", word "x") ∷ []) s

abbrev unvalued : String → KindTree
unvalued s = with_inputs ((codes "name", word "v") ∷ []) s

writers : named "SetVariable" ∷ named "IncrementVariable" ∷ named "DecrementVariable" ∷ named "AppendToArrayVariable" ∷ named "AppendToStringVariable" ∷ []
    ≡ set_to (codes "v") (datum_of "x") ∷ increment (codes "v") (Some (datum_of "x")) ∷ decrement (codes "v") (Some (datum_of "x")) ∷ append_array (codes "v") (datum_of "x") ∷ append_string (codes "v") (datum_of "x") ∷ []
unfolding type_of
writers = refl

writers_by_one : unvalued "incrementvariable" ∷ unvalued "decrementvariable" ∷ [] ≡ increment (codes "v") None ∷ decrement (codes "v") None ∷ []
unfolding type_of
writers_by_one = refl

-- ---- conditions

abbrev pair : ValueTree → ValueTree → ValueTree
pair one other = list (trees (one ∷ other ∷ []))

a_comparison : condition_of (fields ((codes "greaterOrEquals", pair (word "a") (whole 1)) ∷ [])) ≡ compare_by Fun.GreaterOrEquals (datum_of "a") (datum.number (pos 1))
a_comparison = refl

all_comparisons : map (λ (s : List ℕ). condition_of (fields ((s, pair null null) ∷ []))) (codes "equals" ∷ codes "greater" ∷ codes "less" ∷ codes "lessOrEquals" ∷ codes "contains" ∷ codes "startsWith" ∷ codes "endsWith" ∷ [])
    ≡ map (λ (f : Fun). compare_by f datum.null datum.null) (Fun.Equals ∷ Fun.Greater ∷ Fun.Less ∷ Fun.LessOrEquals ∷ Fun.Contains ∷ Fun.StartsWith ∷ Fun.EndsWith ∷ [])
all_comparisons = refl

conditions_in_conditions : condition_of (fields ((codes "and", list (trees (fields ((codes "or", list (trees [])) ∷ []) ∷ fields ((codes "not", word "n") ∷ []) ∷ word "t" ∷ []))) ∷ []))
    ≡ all_of (cond_trees (any_of (cond_trees []) ∷ not_of (holds (spelled "n")) ∷ holds (spelled "t") ∷ []))
conditions_in_conditions = refl

-- ---- options

abbrev lists : String → Bool
lists s = lists_option (codes "Sequential") (codes s)

are_options : lists "Sequential" ∷ lists "sequential" ∷ lists "  SEQUENTIAL  " ∷ lists "a,Sequential" ∷ lists "Sequential,b" ∷ lists " a , Sequential , b " ∷ lists ",,Sequential" ∷ []
    ≡ true ∷ true ∷ true ∷ true ∷ true ∷ true ∷ true ∷ []
are_options = refl

are_no_options : lists "" ∷ lists "," ∷ lists "Sequentia" ∷ lists "Sequentials" ∷ lists "Sequential b" ∷ lists "a Sequential" ∷ lists "Sequential;" ∷ lists "Seq uential" ∷ lists "\tSequential" ∷ []
    ≡ false ∷ false ∷ false ∷ false ∷ false ∷ false ∷ false ∷ false ∷ false ∷ []
are_no_options = refl

-- ---- what holds a graph, or is of no type, is read as nothing here

no_leaves : kind ((codes "inputs", whole 1) ∷ (codes "type", word "Scope") ∷ []) ∷ kind ((codes "inputs", whole 1) ∷ (codes "type", word "Table") ∷ []) ∷ [] ≡ nothing ∷ nothing ∷ []
unfolding type_of
no_leaves = refl
