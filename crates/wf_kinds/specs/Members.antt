-- Which members an action of a type, a trigger and an output have (Workflow Definition Language). Others are ignored.
use Rattle.std.specs.Prelude.{Bool, true, false, ◌&&◌, Option, Some, None, is_some, codes}
use Rattle.std.specs.List.{list_all}
use Rattle.wf_val.specs.ValueTree.{ValueTree, list, items}
use Rattle.wf_val.specs.Get.{get}
use Rattle.wf_kinds.specs.ActionType.{type_of}
use Rattle.wf_kinds.specs.Containers.{foreach_has, if_has, scope_has, switch_has, until_has}
use Rattle.wf_kinds.specs.Data.{compose_has, join_has, parse_json_has, query_has, select_has}
use Rattle.wf_kinds.specs.Parts.{absent_or, is_text}
use Rattle.wf_kinds.specs.Services.{connector_has, response_has, terminate_has, wait_has}
use Rattle.wf_kinds.specs.Variables.{count_has, initialize_has, set_has}
use Rattle.wf_kinds.specs.declared.action_type.ActionType.{ActionType}

-- what the type asks for; of an unknown one nothing is asked
abbrev pub type_has : Option ActionType → ValueTree → Bool
type_has None t = true
type_has (Some ActionType.Compose) t = compose_has t
type_has (Some ActionType.Connector) t = connector_has t
type_has (Some ActionType.Wait) t = wait_has t
type_has (Some ActionType.Response) t = response_has t
type_has (Some ActionType.Terminate) t = terminate_has t
type_has (Some ActionType.Select) t = select_has t
type_has (Some ActionType.Query) t = query_has t
type_has (Some ActionType.Join) t = join_has t
type_has (Some ActionType.ParseJson) t = parse_json_has t
type_has (Some ActionType.InitializeVariable) t = initialize_has t
type_has (Some ActionType.SetVariable) t = set_has t
type_has (Some ActionType.IncrementVariable) t = count_has t
type_has (Some ActionType.DecrementVariable) t = count_has t
type_has (Some ActionType.AppendToArrayVariable) t = set_has t
type_has (Some ActionType.AppendToStringVariable) t = set_has t
type_has (Some ActionType.Scope) t = scope_has t
type_has (Some ActionType.If) t = if_has t
type_has (Some ActionType.Switch) t = switch_has t
type_has (Some ActionType.Foreach) t = foreach_has t
type_has (Some ActionType.Until) t = until_has t

-- a member that is a text where it is present
abbrev pub is_absent_or_text : Option ValueTree → Bool
is_absent_or_text = absent_or (λ t. is_text (Some t))

-- an action's members: those of its type, and its options
unfoldable pub action_has_members : ValueTree → Bool
action_has_members t = type_has (type_of t) t && is_absent_or_text (get (codes "operationOptions") t)

-- a trigger's conditions are objects, each with an expression, which is a text
abbrev pub are_trigger_conditions : ValueTree → Bool
are_trigger_conditions (list ts) = list_all (λ t. is_text (get (codes "expression") t)) (items ts)
are_trigger_conditions t = false

unfoldable pub trigger_has_members : ValueTree → Bool
trigger_has_members t = is_absent_or_text (get (codes "splitOn") t) && absent_or are_trigger_conditions (get (codes "conditions") t)

unfoldable pub output_has_members : ValueTree → Bool
output_has_members t = is_some (get (codes "value") t)
