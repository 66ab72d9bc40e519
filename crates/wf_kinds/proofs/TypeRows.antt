-- The types of actions at worked names.
use Rattle.std.proofs.Common.{◌≡◌, ℕ, List, [], ◌∷◌, ◌++◌, Some, None, Option, map, refl}
use Rattle.std.specs.Prelude.{codes, flat_map, length, pos}
use Rattle.wf_val.specs.ValueTree.{ValueTree, null, number, text, list, object, trees, members}
use Rattle.wf_kinds.specs.ActionType.{names, types, type_named, type_of}
use Rattle.wf_kinds.specs.declared.action_type.ActionType.{ActionType}

-- No two types share a name, also without letter case: each is found under each of its names.
type_named-names : map (λ type'. map type_named (names type')) types ≡ map (λ type'. map (λ name. Some type') (names type')) types
type_named-names = refl

-- an action with nothing but a type
abbrev typed : ValueTree → ValueTree
typed t = object (members ((codes "type", t) ∷ []))

-- the types that names name
abbrev types_of : List (List ℕ) → List (Option ActionType)
types_of ns = map (λ name. type_of (typed (text name))) ns

abbrev each : List (List ℕ) → Option ActionType → List (Option ActionType)
each ns type' = map (λ (name : List ℕ). type') ns

named : types_of (codes "Compose" ∷ codes "WAIT" ∷ codes "response" ∷ codes "terminate" ∷ codes "SELECT" ∷ codes "Query" ∷
    codes "join" ∷ codes "parsejson" ∷ [])
    ≡ map Some (ActionType.Compose ∷ ActionType.Wait ∷ ActionType.Response ∷ ActionType.Terminate ∷ ActionType.Select ∷
    ActionType.Query ∷ ActionType.Join ∷ ActionType.ParseJson ∷ [])
unfolding type_of
named = refl

abbrev services : List (List ℕ)
services = codes "http" ∷ codes "APICONNECTION" ∷ codes "apiConnectionWebhook" ∷ codes "HTTPWebhook" ∷ codes "function" ∷
    codes "workflow" ∷ codes "ApiManagement" ∷ codes "serviceprovider" ∷ []

connectors : types_of services ≡ each services (Some ActionType.Connector)
unfolding type_of
connectors = refl

of_variables : types_of (codes "INITIALIZEVARIABLE" ∷ codes "setvariable" ∷ codes "incrementVariable" ∷ codes "decrementvariable" ∷
    codes "AppendToArrayVariable" ∷ codes "appendtostringvariable" ∷ [])
    ≡ map Some (ActionType.InitializeVariable ∷ ActionType.SetVariable ∷ ActionType.IncrementVariable ∷ ActionType.DecrementVariable ∷
    ActionType.AppendToArrayVariable ∷ ActionType.AppendToStringVariable ∷ [])
unfolding type_of
of_variables = refl

containers : types_of (codes "scope" ∷ codes "IF" ∷ codes "SWITCH" ∷ codes "forEach" ∷ codes "until" ∷ [])
    ≡ map Some (ActionType.Scope ∷ ActionType.If ∷ ActionType.Switch ∷ ActionType.Foreach ∷ ActionType.Until ∷ [])
unfolding type_of
containers = refl

-- nothing is trimmed, no name is a prefix of another, and no other letters are folded: `Sw` and `tch` round a dotless i (U+0131)
abbrev others : List (List ℕ)
others = [] ∷ codes " Compose" ∷ codes "Compose " ∷ codes "Composed" ∷ codes "Compos" ∷ codes "Table" ∷ codes "Recurrence" ∷
    codes "Connector" ∷ codes "For_each" ∷ (codes "Sw" ++ 196 ∷ 177 ∷ codes "tch") ∷ []

unknown : types_of others ≡ each others None
unfolding type_of
unknown = refl

-- a type is a text, and its member's name compares exactly
no_text : map type_of (typed null ∷ typed (number (pos 1)) ∷ typed (list (trees (text (codes "If") ∷ []))) ∷ [])
    ≡ None ∷ None ∷ None ∷ []
unfolding type_of
no_text = refl

no_member : map type_of (object (members []) ∷ object (members ((codes "Type", text (codes "If")) ∷ [])) ∷ text (codes "If") ∷ null ∷ [])
    ≡ None ∷ None ∷ None ∷ None ∷ []
unfolding type_of
no_member = refl

-- There are 27 names of types: eight of what calls a service, and one of each of the 19 others.
count_of_names : length (flat_map names types) ∷ length types ∷ map (λ type'. length (names type')) types
    ≡ 27 ∷ 20 ∷ 1 ∷ 8 ∷ 1 ∷ 1 ∷ 1 ∷ 1 ∷ 1 ∷ 1 ∷ 1 ∷ 1 ∷ 1 ∷ 1 ∷ 1 ∷ 1 ∷ 1 ∷ 1 ∷ 1 ∷ 1 ∷ 1 ∷ 1 ∷ []
count_of_names = refl
