-- The members of actions with inputs, at worked values: each absent, of another form, at and past its range.
use Rattle.std.proofs.Common.{◌≡◌, ℕ, List, [], ◌∷◌, ◌++◌, map, true, false, refl}
use Rattle.std.specs.Prelude.{codes, pos, negsuc}
use Rattle.wf_val.specs.ValueTree.{ValueTree, null, boolean, number, text, list, object, trees, Member, members}
use Rattle.wf_kinds.specs.ActionType.{type_of}
use Rattle.wf_kinds.specs.Members.{action_has_members}

abbrev list_of : List ValueTree → ValueTree
list_of ts = list (trees ts)

abbrev object_of : List Member → ValueTree
object_of ms = object (members ms)

-- an action of a type, with these members
abbrev typed : List ℕ → List Member → ValueTree
typed name ms = object_of (ms ++ (codes "type", text name) ∷ [])

-- with these inputs, and nothing else
abbrev given : List ℕ → ValueTree → ValueTree
given name inputs = typed name ((codes "inputs", inputs) ∷ [])

-- any value, null too
compose-accepted : map action_has_members (
    given (codes "Compose") null ∷
    given (codes "Compose") (text (codes "@x")) ∷
    given (codes "Compose") (object_of []) ∷
    [])
    ≡ true ∷ true ∷ true ∷ []
unfolding action_has_members type_of
compose-accepted = refl

compose-refused : map action_has_members (
    typed (codes "Compose") [] ∷
    typed (codes "Compose") ((codes "input", number (pos 1)) ∷ []) ∷
    [])
    ≡ false ∷ false ∷ []
unfolding action_has_members type_of
compose-refused = refl

-- an object; what is in it is free
connector-accepted : map action_has_members (
    given (codes "Http") (object_of []) ∷
    given (codes "Http") (object_of ((codes "uri", number (pos 5)) ∷ [])) ∷
    given (codes "apiconnection") (object_of []) ∷
    given (codes "ApiConnectionWebhook") (object_of []) ∷
    given (codes "HttpWebhook") (object_of []) ∷
    given (codes "Function") (object_of []) ∷
    given (codes "Workflow") (object_of []) ∷
    given (codes "ApiManagement") (object_of []) ∷
    given (codes "ServiceProvider") (object_of []) ∷
    [])
    ≡ true ∷ true ∷ true ∷ true ∷ true ∷ true ∷ true ∷ true ∷ true ∷ []
unfolding action_has_members type_of
connector-accepted = refl

connector-refused : map action_has_members (
    typed (codes "Http") [] ∷
    given (codes "Http") null ∷
    given (codes "Http") (list_of []) ∷
    given (codes "Http") (text (codes "@x")) ∷
    given (codes "Http") (number (pos 5)) ∷
    given (codes "ApiConnection") (list_of []) ∷
    given (codes "ApiConnectionWebhook") (boolean true) ∷
    given (codes "HttpWebhook") null ∷
    given (codes "Function") (text []) ∷
    given (codes "Workflow") (list_of []) ∷
    given (codes "ApiManagement") (number (pos 1)) ∷
    given (codes "ServiceProvider") null ∷
    [])
    ≡ false ∷ false ∷ false ∷ false ∷ false ∷ false ∷ false ∷ false ∷ false ∷ false ∷ false ∷ false ∷ []
unfolding action_has_members type_of
connector-refused = refl

-- a policy where one is there; one further inside is none
policy-accepted : map action_has_members (
    given (codes "Http") (object_of ((
      codes "retryPolicy",
      object_of ((codes "count", number (pos 1)) ∷
          (codes "interval", text (codes "PT1S")) ∷ (codes "type", text (codes "fixed")) ∷ []),
    ) ∷ [])) ∷
    given (codes "Http") (object_of ((
      codes "retryPolicy",
      object_of ((codes "count", number (pos 90)) ∷
          (codes "interval", text (codes "PT1S")) ∷ (codes "type", text (codes "fixed")) ∷ []),
    ) ∷ [])) ∷
    given (codes "Http") (object_of ((codes "retryPolicy", object_of ((codes "type", text (codes "NONE")) ∷ [])) ∷ [])) ∷
    given (codes "Http") (object_of ((
      codes "retryPolicy",
      object_of ((codes "count", number (negsuc 0)) ∷
          (codes "type", text (codes "default")) ∷ []),
    ) ∷ [])) ∷
    given (codes "Http") (object_of ((codes "body", object_of ((codes "retryPolicy", number (pos 5)) ∷ [])) ∷ [])) ∷
    [])
    ≡ true ∷ true ∷ true ∷ true ∷ true ∷ []
unfolding action_has_members type_of
policy-accepted = refl

policy-refused : map action_has_members (
    given (codes "Http") (object_of ((
      codes "retryPolicy",
      object_of ((codes "count", number (pos 0)) ∷
          (codes "interval", text (codes "PT1S")) ∷ (codes "type", text (codes "fixed")) ∷ []),
    ) ∷ [])) ∷
    given (codes "Http") (object_of ((
      codes "retryPolicy",
      object_of ((codes "count", number (pos 91)) ∷
          (codes "interval", text (codes "PT1S")) ∷ (codes "type", text (codes "fixed")) ∷ []),
    ) ∷ [])) ∷
    given (codes "Http") (object_of ((
      codes "retryPolicy",
      object_of ((codes "count", text (codes "4")) ∷
          (codes "interval", text (codes "PT1S")) ∷ (codes "type", text (codes "fixed")) ∷ []),
    ) ∷ [])) ∷
    given (codes "Http") (object_of ((
      codes "retryPolicy",
      object_of ((codes "count", number (pos 4)) ∷
          (codes "interval", text (codes "1S")) ∷ (codes "type", text (codes "fixed")) ∷ []),
    ) ∷ [])) ∷
    given (codes "Http") (object_of ((
      codes "retryPolicy",
      object_of ((codes "count", number (pos 4)) ∷
          (codes "interval", text (codes "PT1S")) ∷ (codes "minimumInterval", null) ∷ (codes "type", text (codes "fixed")) ∷ []),
    ) ∷ [])) ∷
    given (codes "Http") (object_of ((codes "retryPolicy", null) ∷ [])) ∷
    given (codes "Http") (object_of ((codes "retryPolicy", text (codes "none")) ∷ [])) ∷
    given (codes "Http") (object_of ((codes "retryPolicy", object_of []) ∷ [])) ∷
    given (codes "Http") (object_of ((codes "retryPolicy", object_of ((codes "type", text (codes "linear")) ∷ [])) ∷ [])) ∷
    [])
    ≡ false ∷ false ∷ false ∷ false ∷ false ∷ false ∷ false ∷ false ∷ false ∷ []
unfolding action_has_members type_of
policy-refused = refl

wait-accepted : map action_has_members (
    given (codes "Wait") (object_of []) ∷
    given (codes "Wait") (object_of ((codes "interval", object_of ((codes "count", number (pos 1)) ∷ [])) ∷ [])) ∷
    [])
    ≡ true ∷ true ∷ []
unfolding action_has_members type_of
wait-accepted = refl

wait-refused : map action_has_members (
    typed (codes "Wait") [] ∷
    given (codes "Wait") null ∷
    given (codes "Wait") (list_of []) ∷
    given (codes "Wait") (text (codes "P1D")) ∷
    [])
    ≡ false ∷ false ∷ false ∷ false ∷ []
unfolding action_has_members type_of
wait-refused = refl

response-accepted : map action_has_members (
    given (codes "Response") (object_of ((codes "statusCode", null) ∷ [])) ∷
    given (codes "Response") (object_of ((codes "statusCode", text (codes "@x")) ∷ [])) ∷
    [])
    ≡ true ∷ true ∷ []
unfolding action_has_members type_of
response-accepted = refl

response-refused : map action_has_members (
    typed (codes "Response") [] ∷
    given (codes "Response") (object_of []) ∷
    given (codes "Response") (object_of ((codes "StatusCode", number (pos 200)) ∷ [])) ∷
    given (codes "Response") (list_of (number (pos 200) ∷ [])) ∷
    given (codes "Response") (text (codes "200")) ∷
    given (codes "Response") null ∷
    [])
    ≡ false ∷ false ∷ false ∷ false ∷ false ∷ false ∷ []
unfolding action_has_members type_of
response-refused = refl

terminate-accepted : map action_has_members (
    given (codes "Terminate") (object_of ((codes "runStatus", text (codes "Failed")) ∷ [])) ∷
    given (codes "Terminate") (object_of ((codes "runStatus", number (pos 5)) ∷ [])) ∷
    [])
    ≡ true ∷ true ∷ []
unfolding action_has_members type_of
terminate-accepted = refl

terminate-refused : map action_has_members (
    typed (codes "Terminate") [] ∷
    given (codes "Terminate") (object_of []) ∷
    given (codes "Terminate") (object_of ((codes "status", text (codes "Failed")) ∷ [])) ∷
    given (codes "Terminate") (text (codes "Failed")) ∷
    [])
    ≡ false ∷ false ∷ false ∷ false ∷ []
unfolding action_has_members type_of
terminate-refused = refl

select-accepted : map action_has_members (
    given (codes "Select") (object_of ((codes "from", list_of []) ∷ (codes "select", null) ∷ [])) ∷
    given (codes "Select") (object_of ((codes "from", text (codes "@x")) ∷ (codes "other", number (pos 1)) ∷
    (codes "select", object_of ((codes "a", text (codes "@item()")) ∷ [])) ∷ [])) ∷
    [])
    ≡ true ∷ true ∷ []
unfolding action_has_members type_of
select-accepted = refl

select-refused : map action_has_members (
    typed (codes "Select") [] ∷
    given (codes "Select") (object_of ((codes "from", list_of []) ∷ [])) ∷
    given (codes "Select") (object_of ((codes "select", number (pos 1)) ∷ [])) ∷
    given (codes "Select") (object_of ((codes "Select", number (pos 1)) ∷ (codes "from", list_of []) ∷ [])) ∷
    given (codes "Select") (list_of (text (codes "from") ∷ text (codes "select") ∷ [])) ∷
    [])
    ≡ false ∷ false ∷ false ∷ false ∷ false ∷ []
unfolding action_has_members type_of
select-refused = refl

-- `where` is a text
query-accepted : map action_has_members (
    given (codes "Query") (object_of ((codes "from", null) ∷ (codes "where", text (codes "@x")) ∷ [])) ∷
    given (codes "Query") (object_of ((codes "from", list_of []) ∷ (codes "where", text []) ∷ [])) ∷
    [])
    ≡ true ∷ true ∷ []
unfolding action_has_members type_of
query-accepted = refl

query-refused : map action_has_members (
    typed (codes "Query") [] ∷
    given (codes "Query") (object_of ((codes "from", list_of []) ∷ [])) ∷
    given (codes "Query") (object_of ((codes "where", text (codes "@x")) ∷ [])) ∷
    given (codes "Query") (object_of ((codes "from", list_of []) ∷ (codes "where", null) ∷ [])) ∷
    given (codes "Query") (object_of ((codes "from", list_of []) ∷
    (codes "where", object_of ((codes "equals", list_of (number (pos 1) ∷ number (pos 1) ∷ [])) ∷ [])) ∷ [])) ∷
    given (codes "Query") (object_of ((codes "from", list_of []) ∷ (codes "where", boolean true) ∷ [])) ∷
    [])
    ≡ false ∷ false ∷ false ∷ false ∷ false ∷ false ∷ []
unfolding action_has_members type_of
query-refused = refl

join-accepted : map action_has_members (
    given (codes "Join") (object_of ((codes "from", list_of []) ∷ (codes "joinWith", null) ∷ [])) ∷
    [])
    ≡ true ∷ []
unfolding action_has_members type_of
join-accepted = refl

join-refused : map action_has_members (
    typed (codes "Join") [] ∷
    given (codes "Join") (object_of ((codes "from", list_of []) ∷ [])) ∷
    given (codes "Join") (object_of ((codes "joinWith", text (codes ",")) ∷ [])) ∷
    given (codes "Join") (object_of ((codes "from", list_of []) ∷ (codes "joinwith", text (codes ",")) ∷ [])) ∷
    [])
    ≡ false ∷ false ∷ false ∷ false ∷ []
unfolding action_has_members type_of
join-refused = refl

-- a schema, where there is one, is an object; what stands in it is in WorkedSchemas
parse_json-accepted : map action_has_members (
    given (codes "ParseJson") (object_of ((codes "content", null) ∷ [])) ∷
    given (codes "ParseJson") (object_of ((codes "content", text (codes "@x")) ∷ (codes "schema", object_of []) ∷ [])) ∷
    [])
    ≡ true ∷ true ∷ []
unfolding action_has_members type_of
parse_json-accepted = refl

parse_json-refused : map action_has_members (
    typed (codes "ParseJson") [] ∷
    given (codes "ParseJson") (object_of []) ∷
    given (codes "ParseJson") (object_of ((codes "schema", object_of []) ∷ [])) ∷
    given (codes "ParseJson") (object_of ((codes "content", number (pos 1)) ∷ (codes "schema", null) ∷ [])) ∷
    given (codes "ParseJson") (object_of ((codes "content", number (pos 1)) ∷ (codes "schema", list_of []) ∷ [])) ∷
    given (codes "ParseJson") (object_of ((codes "content", number (pos 1)) ∷ (codes "schema", text (codes "{}")) ∷ [])) ∷
    given (codes "ParseJson") (object_of ((codes "content", number (pos 1)) ∷ (codes "schema", boolean true) ∷ [])) ∷
    [])
    ≡ false ∷ false ∷ false ∷ false ∷ false ∷ false ∷ false ∷ []
unfolding action_has_members type_of
parse_json-refused = refl

-- a variable has a name and a type; how many there may be is in WorkedVariables
initialize-accepted : map action_has_members (
    given (codes "InitializeVariable") (object_of ((
      codes "variables",
      list_of (object_of ((codes "name", text []) ∷
          (codes "type", text (codes "boolean")) ∷ []) ∷ []),
    ) ∷ [])) ∷
    given (codes "InitializeVariable") (object_of ((
      codes "variables",
      list_of (object_of ((codes "name", text (codes "@x")) ∷
          (codes "type", text (codes "INTEGER")) ∷ []) ∷ []),
    ) ∷ [])) ∷
    given (codes "InitializeVariable") (object_of ((
      codes "variables",
      list_of (object_of ((codes "name", text (codes "v")) ∷
          (codes "type", text (codes "String")) ∷ []) ∷ []),
    ) ∷ [])) ∷
    given (codes "InitializeVariable") (object_of ((
      codes "variables",
      list_of (object_of ((codes "name", text (codes "v")) ∷
          (codes "type", text (codes "array")) ∷ []) ∷ []),
    ) ∷ [])) ∷
    given (codes "InitializeVariable") (object_of ((
      codes "variables",
      list_of (object_of ((codes "name", text (codes "v")) ∷
          (codes "type", text (codes "object")) ∷ []) ∷ []),
    ) ∷ [])) ∷
    given (codes "InitializeVariable") (object_of ((
      codes "variables",
      list_of (object_of ((codes "name", text (codes "v")) ∷
          (codes "type", text (codes "integer")) ∷ (codes "value", text (codes "@x")) ∷ []) ∷ []),
    ) ∷ [])) ∷
    [])
    ≡ true ∷ true ∷ true ∷ true ∷ true ∷ true ∷ []
unfolding action_has_members type_of
initialize-accepted = refl

initialize-refused : map action_has_members (
    typed (codes "InitializeVariable") [] ∷
    given (codes "InitializeVariable") (object_of []) ∷
    given (codes "InitializeVariable") (object_of ((codes "variables", null) ∷ [])) ∷
    given (codes "InitializeVariable") (object_of ((codes "variables", list_of []) ∷ [])) ∷
    given (codes "InitializeVariable") (object_of ((
      codes "variables",
      object_of ((codes "name", text (codes "v")) ∷
          (codes "type", text (codes "integer")) ∷ []),
    ) ∷ [])) ∷
    given (codes "InitializeVariable") (object_of ((codes "variables", list_of (text (codes "v") ∷ [])) ∷ [])) ∷
    given (codes "InitializeVariable") (object_of ((
      codes "variables",
      list_of (object_of ((codes "type", text (codes "integer")) ∷
          []) ∷ []),
    ) ∷ [])) ∷
    given (codes "InitializeVariable") (object_of ((
      codes "variables",
      list_of (object_of ((codes "name", number (pos 5)) ∷
          (codes "type", text (codes "integer")) ∷ []) ∷ []),
    ) ∷ [])) ∷
    given (codes "InitializeVariable") (object_of ((
      codes "variables",
      list_of (object_of ((codes "name", text (codes "v")) ∷ []) ∷
          []),
    ) ∷ [])) ∷
    given (codes "InitializeVariable") (object_of ((
      codes "variables",
      list_of (object_of ((codes "name", text (codes "v")) ∷
          (codes "type", null) ∷ []) ∷ []),
    ) ∷ [])) ∷
    given (codes "InitializeVariable") (object_of ((
      codes "variables",
      list_of (object_of ((codes "name", text (codes "v")) ∷
          (codes "type", text (codes "float")) ∷ []) ∷ []),
    ) ∷ [])) ∷
    given (codes "InitializeVariable") (object_of ((
      codes "variables",
      list_of (object_of ((codes "name", text (codes "v")) ∷
          (codes "type", text (codes "int")) ∷ []) ∷ []),
    ) ∷ [])) ∷
    given (codes "InitializeVariable") (object_of ((
      codes "variables",
      list_of (object_of ((codes "name", text (codes "v")) ∷
          (codes "type", text (codes " integer")) ∷ []) ∷ []),
    ) ∷ [])) ∷
    [])
    ≡ false ∷ false ∷ false ∷ false ∷ false ∷ false ∷ false ∷ false ∷ false ∷ false ∷ false ∷ false ∷ false ∷ []
unfolding action_has_members type_of
initialize-refused = refl

-- a name that is a text, and a value
set-accepted : map action_has_members (
    given (codes "SetVariable") (object_of ((codes "name", text (codes "v")) ∷ (codes "value", null) ∷ [])) ∷
    given (codes "AppendToArrayVariable") (object_of ((codes "name", text []) ∷ (codes "value", number (pos 1)) ∷ [])) ∷
    given (codes "AppendToStringVariable") (object_of ((codes "name", text (codes "@x")) ∷ (codes "value", text (codes "a")) ∷ [])) ∷
    [])
    ≡ true ∷ true ∷ true ∷ []
unfolding action_has_members type_of
set-accepted = refl

set-refused : map action_has_members (
    typed (codes "SetVariable") [] ∷
    given (codes "SetVariable") (object_of ((codes "name", text (codes "v")) ∷ [])) ∷
    given (codes "SetVariable") (object_of ((codes "value", number (pos 1)) ∷ [])) ∷
    given (codes "SetVariable") (object_of ((codes "name", null) ∷ (codes "value", number (pos 1)) ∷ [])) ∷
    given (codes "AppendToArrayVariable") (object_of ((codes "name", text (codes "v")) ∷ [])) ∷
    given (codes "AppendToArrayVariable") (object_of ((codes "name", number (pos 5)) ∷ (codes "value", number (pos 1)) ∷ [])) ∷
    given (codes "AppendToStringVariable") (object_of ((codes "name", text (codes "v")) ∷ [])) ∷
    given (codes "AppendToStringVariable") (object_of ((codes "name", list_of (text (codes "v") ∷ [])) ∷
    (codes "value", number (pos 1)) ∷ [])) ∷
    [])
    ≡ false ∷ false ∷ false ∷ false ∷ false ∷ false ∷ false ∷ false ∷ []
unfolding action_has_members type_of
set-refused = refl

-- a name alone is enough
count-accepted : map action_has_members (
    given (codes "IncrementVariable") (object_of ((codes "name", text (codes "v")) ∷ [])) ∷
    given (codes "IncrementVariable") (object_of ((codes "name", text (codes "v")) ∷ (codes "value", null) ∷ [])) ∷
    given (codes "DecrementVariable") (object_of ((codes "name", text (codes "v")) ∷ [])) ∷
    given (codes "DecrementVariable") (object_of ((codes "name", text (codes "v")) ∷ (codes "value", text (codes "@x")) ∷ [])) ∷
    [])
    ≡ true ∷ true ∷ true ∷ true ∷ []
unfolding action_has_members type_of
count-accepted = refl

count-refused : map action_has_members (
    typed (codes "IncrementVariable") [] ∷
    given (codes "IncrementVariable") (object_of ((codes "value", number (pos 1)) ∷ [])) ∷
    given (codes "IncrementVariable") (object_of ((codes "name", number (pos 5)) ∷ [])) ∷
    typed (codes "DecrementVariable") [] ∷
    given (codes "DecrementVariable") (object_of ((codes "value", number (pos 1)) ∷ [])) ∷
    given (codes "DecrementVariable") (object_of ((codes "name", null) ∷ [])) ∷
    [])
    ≡ false ∷ false ∷ false ∷ false ∷ false ∷ false ∷ []
unfolding action_has_members type_of
count-refused = refl

-- options are a text on every action
options-accepted : map action_has_members (
    typed (codes "Compose") ((codes "inputs", number (pos 1)) ∷ (codes "operationOptions", text []) ∷ []) ∷
    typed (codes "Scope") ((codes "actions", object_of []) ∷ (codes "operationOptions", text (codes "Sequential, x")) ∷ []) ∷
    typed (codes "Table") ((codes "operationOptions", text (codes "x")) ∷ []) ∷
    typed (codes "Table") [] ∷
    [])
    ≡ true ∷ true ∷ true ∷ true ∷ []
unfolding action_has_members type_of
options-accepted = refl

options-refused : map action_has_members (
    typed (codes "Compose") ((codes "inputs", number (pos 1)) ∷ (codes "operationOptions", number (pos 5)) ∷ []) ∷
    typed (codes "Compose") ((codes "inputs", number (pos 1)) ∷ (codes "operationOptions", null) ∷ []) ∷
    typed (codes "Scope") ((codes "actions", object_of []) ∷ (codes "operationOptions", list_of []) ∷ []) ∷
    typed (codes "Foreach") ((codes "foreach", list_of []) ∷ (codes "operationOptions", list_of (text (codes "Sequential") ∷ [])) ∷ []) ∷
    typed (codes "Table") ((codes "operationOptions", boolean true) ∷ []) ∷
    [])
    ≡ false ∷ false ∷ false ∷ false ∷ false ∷ []
unfolding action_has_members type_of
options-refused = refl
