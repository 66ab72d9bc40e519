-- The types of actions, by their names (Workflow Definition Language, "Action types").
use Rattle.std.specs.Prelude.{ℕ, List, [], ◌∷◌, Bool, Option, Some, None, find, codes}
use Rattle.std.specs.List.{list_any}
use Rattle.std.specs.Str.{str_eq_ignore_ascii_case}
use Rattle.wf_val.specs.ValueTree.{ValueTree, text}
use Rattle.wf_val.specs.Get.{get}
use Rattle.wf_kinds.specs.declared.action_type.ActionType.{ActionType}

-- the names of what calls a service
abbrev pub connectors : List (List ℕ)
connectors =
    codes "Http" ∷
    codes "ApiConnection" ∷
    codes "ApiConnectionWebhook" ∷
    codes "HttpWebhook" ∷
    codes "Function" ∷
    codes "Workflow" ∷
    codes "ApiManagement" ∷
    codes "ServiceProvider" ∷
    []

abbrev pub names : ActionType → List (List ℕ)
names ActionType.Compose = codes "Compose" ∷ []
names ActionType.Connector = connectors
names ActionType.Wait = codes "Wait" ∷ []
names ActionType.Response = codes "Response" ∷ []
names ActionType.Terminate = codes "Terminate" ∷ []
names ActionType.Select = codes "Select" ∷ []
names ActionType.Query = codes "Query" ∷ []
names ActionType.Join = codes "Join" ∷ []
names ActionType.ParseJson = codes "ParseJson" ∷ []
names ActionType.InitializeVariable = codes "InitializeVariable" ∷ []
names ActionType.SetVariable = codes "SetVariable" ∷ []
names ActionType.IncrementVariable = codes "IncrementVariable" ∷ []
names ActionType.DecrementVariable = codes "DecrementVariable" ∷ []
names ActionType.AppendToArrayVariable = codes "AppendToArrayVariable" ∷ []
names ActionType.AppendToStringVariable = codes "AppendToStringVariable" ∷ []
names ActionType.Scope = codes "Scope" ∷ []
names ActionType.If = codes "If" ∷ []
names ActionType.Switch = codes "Switch" ∷ []
names ActionType.Foreach = codes "Foreach" ∷ []
names ActionType.Until = codes "Until" ∷ []

abbrev pub types : List ActionType
types =
    ActionType.Compose ∷
    ActionType.Connector ∷
    ActionType.Wait ∷
    ActionType.Response ∷
    ActionType.Terminate ∷
    ActionType.Select ∷
    ActionType.Query ∷
    ActionType.Join ∷
    ActionType.ParseJson ∷
    ActionType.InitializeVariable ∷
    ActionType.SetVariable ∷
    ActionType.IncrementVariable ∷
    ActionType.DecrementVariable ∷
    ActionType.AppendToArrayVariable ∷
    ActionType.AppendToStringVariable ∷
    ActionType.Scope ∷
    ActionType.If ∷
    ActionType.Switch ∷
    ActionType.Foreach ∷
    ActionType.Until ∷
    []

-- the case of ASCII letters doesn't count, and nothing is trimmed
abbrev pub is_named : List ℕ → ActionType → Bool
is_named name type' = list_any (str_eq_ignore_ascii_case name) (names type')

abbrev pub type_named : List ℕ → Option ActionType
type_named name = find (is_named name) types

abbrev pub type_in : Option ValueTree → Option ActionType
type_in (Some (text s)) = type_named s
type_in t = None

-- the type of the action that a value may be
unfoldable pub type_of : ValueTree → Option ActionType
type_of t = type_in (get (codes "type") t)
