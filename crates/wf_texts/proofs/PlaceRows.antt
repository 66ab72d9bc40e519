-- Where actions, triggers and outputs have bad texts, at worked values.
use Rattle.std.proofs.Common.{◌≡◌, ℕ, List, [], ◌∷◌, ◌++◌, Some, true, refl}
use Rattle.std.specs.Char.{encode_utf8}
use Rattle.std.specs.Fmt.{digits}
use Rattle.std.specs.Prelude.{codes, pos}
use Rattle.std.specs.Str.{chars}
use Rattle.wf_val.specs.ValueTree.{ValueTree, null, boolean, number, text, list, object, trees, Member, members}
use Rattle.wf_expr.specs.Kinds.{kind}
use Rattle.wf_expr.specs.Text.{template_in}
use Rattle.wf_expr.specs.WordTests.{word_of, word_front}
use Rattle.wf_kinds.specs.Pointer.{least}
use Rattle.wf_kinds.specs.ActionType.{type_of}
use Rattle.wf_texts.specs.Members.{bad_texts_of_action, bad_texts_of_trigger, bad_texts_of_output}
use Rattle.wf_texts.specs.Sound.{is_bad}

abbrev list_of : List ValueTree → ValueTree
list_of ts = list (trees ts)

abbrev object_of : List Member → ValueTree
object_of ms = object (members ms)

-- concat takes an argument
abbrev bad : ValueTree
bad = text (codes "@concat()")

abbrev sound : ValueTree
sound = text (codes "@item()")

-- an action of a type, with these members
abbrev typed : List ℕ → List Member → ValueTree
typed name ms = object_of (ms ++ (codes "type", text name) ∷ [])

compose : bad_texts_of_action (typed (codes "Compose") ((codes "inputs", bad) ∷ []))
    ≡ codes "/inputs" ∷ []
unfolding bad_texts_of_action type_of is_bad template_in chars kind encode_utf8 word_of word_front digits
compose = refl

-- however deep it lies; what else an action has stands for itself
compose-inside : bad_texts_of_action (typed (codes "COMPOSE") ((codes "description", bad) ∷ (
  codes "inputs",
  object_of ((codes "a", list_of (number (pos 1) ∷ bad ∷ sound ∷ [])) ∷ (
    codes "b/c",
    object_of ((codes "~", bad) ∷
        []),
  ) ∷ []),
) ∷ (codes "runAfter", object_of ((codes "A", list_of (bad ∷ [])) ∷ [])) ∷ []))
    ≡ codes "/inputs/a/1" ∷ codes "/inputs/b~1c/~0" ∷ []
unfolding bad_texts_of_action type_of is_bad template_in chars kind encode_utf8 word_of word_front digits
compose-inside = refl

-- a member's name is no template
compose-names : bad_texts_of_action (typed (codes "Compose") ((codes "inputs", object_of ((codes "@concat()", sound) ∷ [])) ∷ []))
    ≡ []
unfolding bad_texts_of_action type_of is_bad template_in chars kind encode_utf8 word_of word_front digits
compose-names = refl

compose-sound : bad_texts_of_action (typed (codes "Compose") ((
  codes "inputs",
  list_of (sound ∷ null ∷ boolean true ∷ number (pos 5) ∷
      object_of [] ∷ []),
) ∷ []))
    ≡ []
unfolding bad_texts_of_action type_of is_bad template_in chars kind encode_utf8 word_of word_front digits
compose-sound = refl

-- where there is no such member there is no template
compose-none : bad_texts_of_action (typed (codes "Compose") [])
    ≡ []
unfolding bad_texts_of_action type_of is_bad template_in chars kind encode_utf8 word_of word_front digits
compose-none = refl

-- a connector's own policy holds none; one further inside is no policy
connector : bad_texts_of_action (typed (codes "Http") ((
  codes "inputs",
  object_of ((codes "body", list_of (bad ∷ [])) ∷
      (codes "retryPolicy", object_of ((codes "count", bad) ∷ (codes "type", bad) ∷ [])) ∷
      (codes "uri", object_of ((codes "retryPolicy", bad) ∷ [])) ∷ []),
) ∷ []))
    ≡ codes "/inputs/body/0" ∷ codes "/inputs/uri/retryPolicy" ∷ []
unfolding bad_texts_of_action type_of is_bad template_in chars kind encode_utf8 word_of word_front digits
connector = refl

connector-alone : bad_texts_of_action (typed (codes "ServiceProvider") ((
  codes "inputs",
  object_of ((codes "retryPolicy", bad) ∷
      []),
) ∷ []))
    ≡ []
unfolding bad_texts_of_action type_of is_bad template_in chars kind encode_utf8 word_of word_front digits
connector-alone = refl

-- no other type has a policy
policy : bad_texts_of_action (typed (codes "Compose") ((codes "inputs", object_of ((codes "retryPolicy", bad) ∷ [])) ∷ []))
    ≡ codes "/inputs/retryPolicy" ∷ []
unfolding bad_texts_of_action type_of is_bad template_in chars kind encode_utf8 word_of word_front digits
policy = refl

wait : bad_texts_of_action (typed (codes "Wait") ((
  codes "inputs",
  object_of ((
    codes "until",
    object_of ((codes "timestamp", bad) ∷
        []),
  ) ∷ []),
) ∷ []))
    ≡ codes "/inputs/until/timestamp" ∷ []
unfolding bad_texts_of_action type_of is_bad template_in chars kind encode_utf8 word_of word_front digits
wait = refl

response : bad_texts_of_action (typed (codes "Response") ((
  codes "inputs",
  object_of ((codes "body", bad) ∷
      (codes "statusCode", bad) ∷ []),
) ∷ []))
    ≡ codes "/inputs/body" ∷ codes "/inputs/statusCode" ∷ []
unfolding bad_texts_of_action type_of is_bad template_in chars kind encode_utf8 word_of word_front digits
response = refl

terminate : bad_texts_of_action (typed (codes "Terminate") ((
  codes "inputs",
  object_of ((
    codes "runError",
    object_of ((
      codes "message",
      bad,
    ) ∷ []),
  ) ∷ (codes "runStatus", bad) ∷ []),
) ∷ []))
    ≡ codes "/inputs/runError/message" ∷ codes "/inputs/runStatus" ∷ []
unfolding bad_texts_of_action type_of is_bad template_in chars kind encode_utf8 word_of word_front digits
terminate = refl

-- further members of inputs hold none
select : bad_texts_of_action (typed (codes "Select") ((
  codes "inputs",
  object_of ((codes "from", bad) ∷ (codes "other", bad) ∷
      (codes "select", object_of ((codes "k", bad) ∷ [])) ∷ []),
) ∷ []))
    ≡ codes "/inputs/from" ∷ codes "/inputs/select/k" ∷ []
unfolding bad_texts_of_action type_of is_bad template_in chars kind encode_utf8 word_of word_front digits
select = refl

query : bad_texts_of_action (typed (codes "Query") ((
  codes "inputs",
  object_of ((codes "from", list_of (bad ∷ [])) ∷
      (codes "other", bad) ∷ (codes "where", bad) ∷ []),
) ∷ []))
    ≡ codes "/inputs/from/0" ∷ codes "/inputs/where" ∷ []
unfolding bad_texts_of_action type_of is_bad template_in chars kind encode_utf8 word_of word_front digits
query = refl

join : bad_texts_of_action (typed (codes "Join") ((
  codes "inputs",
  object_of ((codes "from", bad) ∷ (codes "joinWith", bad) ∷
      (codes "other", bad) ∷ []),
) ∷ []))
    ≡ codes "/inputs/from" ∷ codes "/inputs/joinWith" ∷ []
unfolding bad_texts_of_action type_of is_bad template_in chars kind encode_utf8 word_of word_front digits
join = refl

parse_json : bad_texts_of_action (typed (codes "ParseJson") ((
  codes "inputs",
  object_of ((codes "content", bad) ∷
      (codes "schema", object_of ((codes "type", bad) ∷ [])) ∷ []),
) ∷ []))
    ≡ codes "/inputs/content" ∷ []
unfolding bad_texts_of_action type_of is_bad template_in chars kind encode_utf8 word_of word_front digits
parse_json = refl

-- a variable's name and type stand for themselves
initialize : bad_texts_of_action (typed (codes "InitializeVariable") ((
  codes "inputs",
  object_of ((
    codes "variables",
    list_of (object_of ((codes "name", bad) ∷ (codes "type", bad) ∷ (codes "value", list_of (bad ∷ [])) ∷ []) ∷
        object_of ((codes "value", bad) ∷ []) ∷ []),
  ) ∷ []),
) ∷ []))
    ≡ codes "/inputs/variables/0/value/0" ∷ codes "/inputs/variables/1/value" ∷ []
unfolding bad_texts_of_action type_of is_bad template_in chars kind encode_utf8 word_of word_front digits
initialize = refl

initialize-none : bad_texts_of_action (typed (codes "InitializeVariable") ((
  codes "inputs",
  object_of ((
    codes "variables",
    list_of (object_of ((codes "name", bad) ∷ (codes "type", text (codes "array")) ∷ []) ∷ []),
  ) ∷ []),
) ∷ []))
    ≡ []
unfolding bad_texts_of_action type_of is_bad template_in chars kind encode_utf8 word_of word_front digits
initialize-none = refl

set : bad_texts_of_action (typed (codes "SetVariable") ((
  codes "inputs",
  object_of ((codes "name", bad) ∷ (codes "value", bad) ∷
      []),
) ∷ []))
    ≡ codes "/inputs/value" ∷ []
unfolding bad_texts_of_action type_of is_bad template_in chars kind encode_utf8 word_of word_front digits
set = refl

increment : bad_texts_of_action (typed (codes "IncrementVariable") ((
  codes "inputs",
  object_of ((codes "name", bad) ∷
      (codes "value", bad) ∷ []),
) ∷ []))
    ≡ codes "/inputs/value" ∷ []
unfolding bad_texts_of_action type_of is_bad template_in chars kind encode_utf8 word_of word_front digits
increment = refl

decrement : bad_texts_of_action (typed (codes "DecrementVariable") ((
  codes "inputs",
  object_of ((codes "name", bad) ∷
      (codes "value", bad) ∷ []),
) ∷ []))
    ≡ codes "/inputs/value" ∷ []
unfolding bad_texts_of_action type_of is_bad template_in chars kind encode_utf8 word_of word_front digits
decrement = refl

append-array : bad_texts_of_action (typed (codes "AppendToArrayVariable") ((
  codes "inputs",
  object_of ((codes "name", bad) ∷
      (codes "value", bad) ∷ []),
) ∷ []))
    ≡ codes "/inputs/value" ∷ []
unfolding bad_texts_of_action type_of is_bad template_in chars kind encode_utf8 word_of word_front digits
append-array = refl

append-string : bad_texts_of_action (typed (codes "AppendToStringVariable") ((
  codes "inputs",
  object_of ((codes "name", bad) ∷
      (codes "value", bad) ∷ []),
) ∷ []))
    ≡ codes "/inputs/value" ∷ []
unfolding bad_texts_of_action type_of is_bad template_in chars kind encode_utf8 word_of word_front digits
append-string = refl

-- the actions inside are looked at by themselves
scope : bad_texts_of_action (typed (codes "Scope") ((
  codes "actions",
  object_of ((
    codes "A",
    object_of ((codes "inputs", bad) ∷
        (codes "type", text (codes "Compose")) ∷ []),
  ) ∷ []),
) ∷ (codes "expression", bad) ∷ (codes "inputs", bad) ∷ []))
    ≡ []
unfolding bad_texts_of_action type_of is_bad template_in chars kind encode_utf8 word_of word_front digits
scope = refl

if : bad_texts_of_action (typed (codes "If") ((
  codes "actions",
  object_of ((
    codes "A",
    object_of ((codes "inputs", bad) ∷
        (codes "type", text (codes "Compose")) ∷ []),
  ) ∷ []),
) ∷ (
  codes "else",
  object_of ((
    codes "actions",
    object_of ((
      codes "B",
      object_of ((codes "inputs", bad) ∷
          (codes "type", text (codes "Compose")) ∷ []),
    ) ∷ []),
  ) ∷ []),
) ∷ (
  codes "expression",
  object_of ((
    codes "and",
    list_of (bad ∷
        object_of ((codes "equals", list_of (bad ∷ object_of ((codes "x", bad) ∷ []) ∷ [])) ∷ []) ∷ object_of ((codes "not", bad) ∷ []) ∷
        []),
  ) ∷ []),
) ∷ (codes "inputs", bad) ∷ []))
    ≡ codes "/expression/and/0" ∷ codes "/expression/and/1/equals/0" ∷ codes "/expression/and/1/equals/1/x" ∷
    codes "/expression/and/2/not" ∷ []
unfolding bad_texts_of_action type_of is_bad template_in chars kind encode_utf8 word_of word_front digits
if = refl

-- a case's value stands for itself
switch : bad_texts_of_action (typed (codes "Switch") ((
  codes "cases",
  object_of ((codes "a", object_of ((codes "case", bad) ∷ [])) ∷
      []),
) ∷ (codes "default", object_of ((codes "actions", object_of []) ∷ [])) ∷ (codes "expression", bad) ∷ []))
    ≡ codes "/expression" ∷ []
unfolding bad_texts_of_action type_of is_bad template_in chars kind encode_utf8 word_of word_front digits
switch = refl

foreach : bad_texts_of_action (typed (codes "Foreach") ((codes "foreach", list_of (bad ∷ list_of (bad ∷ []) ∷ [])) ∷
    (codes "operationOptions", bad) ∷
    (codes "runtimeConfiguration", object_of ((codes "concurrency", object_of ((codes "repetitions", bad) ∷ [])) ∷ [])) ∷ []))
    ≡ codes "/foreach/0" ∷ codes "/foreach/1/0" ∷ []
unfolding bad_texts_of_action type_of is_bad template_in chars kind encode_utf8 word_of word_front digits
foreach = refl

until : bad_texts_of_action (typed (codes "Until") ((codes "expression", bad) ∷ (
  codes "limit",
  object_of ((codes "count", bad) ∷
      (codes "timeout", bad) ∷ []),
) ∷ []))
    ≡ codes "/expression" ∷ []
unfolding bad_texts_of_action type_of is_bad template_in chars kind encode_utf8 word_of word_front digits
until = refl

-- what is tracked, whatever the type
tracked : bad_texts_of_action (typed (codes "Scope") ((
  codes "trackedProperties",
  object_of ((codes "a/b", bad) ∷ (codes "c", sound) ∷
      []),
) ∷ []))
    ≡ codes "/trackedProperties/a~1b" ∷ []
unfolding bad_texts_of_action type_of is_bad template_in chars kind encode_utf8 word_of word_front digits
tracked = refl

-- of an unknown type only that
tracked-unknown : bad_texts_of_action (typed (codes "Table") ((codes "inputs", bad) ∷
    (codes "trackedProperties", object_of ((codes "p", bad) ∷ [])) ∷ []))
    ≡ codes "/trackedProperties/p" ∷ []
unfolding bad_texts_of_action type_of is_bad template_in chars kind encode_utf8 word_of word_front digits
tracked-unknown = refl

tracked-first : bad_texts_of_action (typed (codes "Compose") ((codes "inputs", bad) ∷
    (codes "trackedProperties", object_of ((codes "p", bad) ∷ [])) ∷ []))
    ≡ codes "/trackedProperties/p" ∷ codes "/inputs" ∷ []
unfolding bad_texts_of_action type_of is_bad template_in chars kind encode_utf8 word_of word_front digits
tracked-first = refl

-- what else a trigger has is ignored
trigger : bad_texts_of_trigger (object_of ((
  codes "conditions",
  list_of (object_of ((codes "expression", bad) ∷ []) ∷
      object_of ((codes "dependsOn", bad) ∷ (codes "expression", sound) ∷ []) ∷ object_of ((codes "expression", bad) ∷ []) ∷ []),
) ∷
    (codes "inputs", object_of ((codes "schema", bad) ∷ [])) ∷ (codes "recurrence", object_of ((codes "interval", bad) ∷ [])) ∷
    (codes "splitOn", bad) ∷ (codes "trackedProperties", object_of ((codes "p", bad) ∷ [])) ∷ []))
    ≡ codes "/splitOn" ∷ codes "/conditions/0/expression" ∷ codes "/conditions/2/expression" ∷ []
unfolding bad_texts_of_trigger is_bad template_in chars kind encode_utf8 word_of word_front digits
trigger = refl

trigger-none : bad_texts_of_trigger (object_of ((codes "conditions", list_of []) ∷ (codes "type", bad) ∷ []))
    ≡ []
unfolding bad_texts_of_trigger is_bad template_in chars kind encode_utf8 word_of word_front digits
trigger-none = refl

output : bad_texts_of_output (object_of ((codes "description", bad) ∷ (codes "type", bad) ∷
    (codes "value", object_of ((codes "a", bad) ∷ [])) ∷ []))
    ≡ codes "/value/a" ∷ []
unfolding bad_texts_of_output is_bad template_in chars kind encode_utf8 word_of word_front digits
output = refl

output-none : bad_texts_of_output (object_of ((codes "type", bad) ∷ []))
    ≡ []
unfolding bad_texts_of_output is_bad template_in chars kind encode_utf8 word_of word_front digits
output-none = refl

-- the least by bytes, and not by places or by the order of the ways
least-by_bytes : least (bad_texts_of_action (typed (codes "Compose") ((
  codes "inputs",
  list_of (null ∷ null ∷ bad ∷ null ∷ null ∷ null ∷ null ∷ null ∷ null ∷ null ∷ bad ∷ []),
) ∷ [])))
    ≡ Some (codes "/inputs/10")
unfolding bad_texts_of_action type_of is_bad template_in chars kind encode_utf8 word_of word_front digits
least-by_bytes = refl

least-of_ways : least (bad_texts_of_action (typed (codes "Compose") ((codes "inputs", bad) ∷
    (codes "trackedProperties", object_of ((codes "p", bad) ∷ [])) ∷ [])))
    ≡ Some (codes "/inputs")
unfolding bad_texts_of_action type_of is_bad template_in chars kind encode_utf8 word_of word_front digits
least-of_ways = refl
