-- Which members of an action, a trigger and an output hold templates (Workflow Definition Language), and where they have bad texts.
use Rattle.std.specs.Prelude.{ℕ, suc, List, [], ◌∷◌, ◌++◌, map, Option, Some, None, if◌then◌else◌, bytes_eq, codes}
use Rattle.wf_val.specs.ValueTree.{ValueTree, list, object, ValueTrees, no_values, value_then, MemberTrees, no_members, member_then}
use Rattle.wf_val.specs.Get.{get}
use Rattle.wf_kinds.specs.Pointer.{item_step, member_step}
use Rattle.wf_kinds.specs.ActionType.{type_of}
use Rattle.wf_kinds.specs.declared.action_type.ActionType.{ActionType}
use Rattle.wf_texts.specs.Bad.{bad_texts}

-- ---- ways down to them

-- to the member of a name, to each member but the one of a name, to each item
pub data Way : Type 0 where
  to : List ℕ → Way
  to_all_but : List ℕ → Way
  to_each : Way

-- to the member of `inputs`
abbrev pub to_input : List ℕ → List Way
to_input name = to (codes "inputs") ∷ to name ∷ []

-- By the action's type. In what a way leads to, every text is a template, however deep it lies; nothing else is. A connector's
-- own retry policy holds none; the names and types of variables and the values of cases stand for themselves.
abbrev pub type_ways : Option ActionType → List (List Way)
type_ways None = []
type_ways (Some ActionType.Compose) = (to (codes "inputs") ∷ []) ∷ []
type_ways (Some ActionType.Connector) = (to (codes "inputs") ∷ to_all_but (codes "retryPolicy") ∷ []) ∷ []
type_ways (Some ActionType.Wait) = (to (codes "inputs") ∷ []) ∷ []
type_ways (Some ActionType.Response) = (to (codes "inputs") ∷ []) ∷ []
type_ways (Some ActionType.Terminate) = (to (codes "inputs") ∷ []) ∷ []
type_ways (Some ActionType.Select) = to_input (codes "from") ∷ to_input (codes "select") ∷ []
type_ways (Some ActionType.Query) = to_input (codes "from") ∷ to_input (codes "where") ∷ []
type_ways (Some ActionType.Join) = to_input (codes "from") ∷ to_input (codes "joinWith") ∷ []
type_ways (Some ActionType.ParseJson) = to_input (codes "content") ∷ []
type_ways (Some ActionType.InitializeVariable) = (to (codes "inputs") ∷ to (codes "variables") ∷ to_each ∷ to (codes "value") ∷ []) ∷ []
type_ways (Some ActionType.SetVariable) = to_input (codes "value") ∷ []
type_ways (Some ActionType.IncrementVariable) = to_input (codes "value") ∷ []
type_ways (Some ActionType.DecrementVariable) = to_input (codes "value") ∷ []
type_ways (Some ActionType.AppendToArrayVariable) = to_input (codes "value") ∷ []
type_ways (Some ActionType.AppendToStringVariable) = to_input (codes "value") ∷ []
type_ways (Some ActionType.Scope) = []
type_ways (Some ActionType.If) = (to (codes "expression") ∷ []) ∷ []
type_ways (Some ActionType.Switch) = (to (codes "expression") ∷ []) ∷ []
type_ways (Some ActionType.Foreach) = (to (codes "foreach") ∷ []) ∷ []
type_ways (Some ActionType.Until) = (to (codes "expression") ∷ []) ∷ []

-- what any action may track
abbrev pub action_ways : ValueTree → List (List Way)
action_ways t = (to (codes "trackedProperties") ∷ []) ∷ type_ways (type_of t)

abbrev pub trigger_ways : List (List Way)
trigger_ways = (to (codes "splitOn") ∷ []) ∷ (to (codes "conditions") ∷ to_each ∷ to (codes "expression") ∷ []) ∷ []

abbrev pub output_ways : List (List Way)
output_ways = (to (codes "value") ∷ []) ∷ []

-- ---- the bad texts that they lead to

-- pointers from parts of a value: from the member of a name, each item, each member but the one of a name
abbrev pub in_member : List ℕ → (ValueTree → List (List ℕ)) → Option ValueTree → List (List ℕ)
in_member name f None = []
in_member name f (Some t) = map (λ p. member_step name ++ p) (f t)

abbrev pub in_items : (ValueTree → List (List ℕ)) → ℕ → ValueTrees → List (List ℕ)
in_items f place no_values = []
in_items f place (value_then t ts) = map (λ p. item_step place ++ p) (f t) ++ in_items f (suc place) ts

abbrev pub in_list : (ValueTree → List (List ℕ)) → ValueTree → List (List ℕ)
in_list f (list ts) = in_items f 0 ts
in_list f t = []

abbrev pub in_other : List ℕ → (ValueTree → List (List ℕ)) → List ℕ → ValueTree → List (List ℕ)
in_other name f k t = if bytes_eq k name then [] else map (λ p. member_step k ++ p) (f t)

abbrev pub in_members_but : List ℕ → (ValueTree → List (List ℕ)) → MemberTrees → List (List ℕ)
in_members_but name f no_members = []
in_members_but name f (member_then k t ms) = in_other name f k t ++ in_members_but name f ms

abbrev pub in_object_but : List ℕ → (ValueTree → List (List ℕ)) → ValueTree → List (List ℕ)
in_object_but name f (object ms) = in_members_but name f ms
in_object_but name f t = []

abbrev pub along : List Way → ValueTree → List (List ℕ)
along [] t = bad_texts t
along (to name ∷ ways) t = in_member name (λ u. along ways u) (get name t)
along (to_each ∷ ways) t = in_list (λ u. along ways u) t
along (to_all_but name ∷ ways) t = in_object_but name (λ u. along ways u) t

abbrev pub along_all : List (List Way) → ValueTree → List (List ℕ)
along_all [] t = []
along_all (way ∷ ways) t = along way t ++ along_all ways t

unfoldable pub bad_texts_of_action : ValueTree → List (List ℕ)
bad_texts_of_action t = along_all (action_ways t) t

unfoldable pub bad_texts_of_trigger : ValueTree → List (List ℕ)
bad_texts_of_trigger t = along_all trigger_ways t

unfoldable pub bad_texts_of_output : ValueTree → List (List ℕ)
bad_texts_of_output t = along_all output_ways t
