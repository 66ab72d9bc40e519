-- What an action of a type that holds no graph does (Workflow Definition Language, "Actions and triggers").
use Rattle.std.specs.Prelude.{ℕ, List, [], map, Option, Some, None, Result, Ok, Err, option_map, if◌then◌else◌, codes}
use Rattle.std.specs.Str.{str_eq_ignore_ascii_case}
use Rattle.wf_val.specs.ValueTree.{ValueTree, list, items}
use Rattle.wf_val.specs.Get.{get, without}
use Rattle.wf_template.specs.DataTree as datum
use Rattle.wf_kinds.specs.Parts.{input}
use Rattle.wf_kinds.specs.declared.action_type.ActionType.{ActionType}
use Rattle.wf_kinds.specs.Policy.{Policy}
use Rattle.wf_kinds.specs.PolicyFault.{PolicyFault}
use Rattle.wf_kinds.specs.Reading.{policy_of}
use Rattle.wf_schema.specs.Reading.{SchemaTree, schema_of}
use Rattle.wf_schema.specs.declared.fault.SchemaFault.{SchemaFault}
use Rattle.wf_def.specs.ActionTree.{InitialTree, KindTree, compose, connector, wait, response, terminate, select, query, join, parse_json, initialize, set_to, increment, decrement, append_array, append_string}
use Rattle.wf_def.specs.declared.sort.Sort.{Sort}
use Rattle.wf_leaves.specs.Texts.{data_in, data_of, template_at, text_in}

-- what a value of another form is read as
abbrev pub nothing : KindTree
nothing = compose datum.null

-- the retry policy that a value is, the standard one where it is none
abbrev pub or_standard : Result Policy PolicyFault → Policy
or_standard (Ok policy) = policy
or_standard (Err fault) = Policy.Standard

abbrev pub policy_in : Option ValueTree → Policy
policy_in None = Policy.Standard
policy_in (Some t) = or_standard (policy_of t)

-- the schema that a value is; none where it isn't one
abbrev pub schema_if : Result SchemaTree SchemaFault → Option SchemaTree
schema_if (Ok schema) = Some schema
schema_if (Err fault) = None

abbrev pub schema_in : Option ValueTree → Option SchemaTree
schema_in None = None
schema_in (Some t) = schema_if (schema_of t)

-- the type of a variable
abbrev pub variable_sort : List ℕ → Sort
variable_sort s =
    if str_eq_ignore_ascii_case s (codes "boolean") then Sort.Bool else
    (if str_eq_ignore_ascii_case s (codes "integer") then Sort.Int else
    (if str_eq_ignore_ascii_case s (codes "string") then Sort.Text else
    (if str_eq_ignore_ascii_case s (codes "array") then Sort.List else Sort.Obj)))

-- a variable that is initialised; its name is no template
abbrev pub initial_of : ValueTree → InitialTree
initial_of t = record {
  name = text_in (get (codes "name") t);
  sort = variable_sort (text_in (get (codes "type") t));
  value = option_map data_of (get (codes "value") t);
}

abbrev pub initials_in : Option ValueTree → List InitialTree
initials_in (Some (list ts)) = map initial_of (items ts)
initials_in t = []

-- an action of a type; `retryPolicy` is no part of what a connector sends
abbrev pub leaf_of : ActionType → ValueTree → KindTree
leaf_of ActionType.Compose t = compose (data_in (get (codes "inputs") t))
leaf_of ActionType.Connector t = connector (data_in (option_map (without (codes "retryPolicy")) (get (codes "inputs") t))) (policy_in (input (codes "retryPolicy") t))
leaf_of ActionType.Wait t = wait (data_in (get (codes "inputs") t))
leaf_of ActionType.Response t = response (data_in (get (codes "inputs") t))
leaf_of ActionType.Terminate t = terminate (data_in (get (codes "inputs") t))
leaf_of ActionType.Select t = select (data_in (input (codes "from") t)) (data_in (input (codes "select") t))
leaf_of ActionType.Query t = query (data_in (input (codes "from") t)) (template_at (input (codes "where") t))
leaf_of ActionType.Join t = join (data_in (input (codes "from") t)) (data_in (input (codes "joinWith") t))
leaf_of ActionType.ParseJson t = parse_json (data_in (input (codes "content") t)) (schema_in (input (codes "schema") t))
leaf_of ActionType.InitializeVariable t = initialize (initials_in (input (codes "variables") t))
leaf_of ActionType.SetVariable t = set_to (text_in (input (codes "name") t)) (data_in (input (codes "value") t))
leaf_of ActionType.IncrementVariable t = increment (text_in (input (codes "name") t)) (option_map data_of (input (codes "value") t))
leaf_of ActionType.DecrementVariable t = decrement (text_in (input (codes "name") t)) (option_map data_of (input (codes "value") t))
leaf_of ActionType.AppendToArrayVariable t = append_array (text_in (input (codes "name") t)) (data_in (input (codes "value") t))
leaf_of ActionType.AppendToStringVariable t = append_string (text_in (input (codes "name") t)) (data_in (input (codes "value") t))
leaf_of container t = nothing
