-- The members of actions that hold actions, at worked values: each absent, of another form, at and past its range.
use Rattle.std.proofs.Common.{◌≡◌, ℕ, List, [], ◌∷◌, ◌++◌, map, true, false, refl}
use Rattle.std.specs.Prelude.{codes, pos, negsuc}
use Rattle.wf_val.specs.ValueTree.{ValueTree, null, boolean, number, text, list, object, trees, Member, members}
use Rattle.wf_kinds.specs.ActionType.{type_of}
use Rattle.wf_kinds.specs.Members.{action_has_members}

abbrev list_of : List ValueTree → ValueTree
list_of ts = list (trees ts)

abbrev object_of : List Member → ValueTree
object_of ms = object (members ms)

-- an action of a type, with these members
abbrev typed : List ℕ → List Member → ValueTree
typed name ms = object_of (ms ++ (codes "type", text name) ∷ [])

scope-accepted : map action_has_members (
    typed (codes "Scope") ((codes "actions", object_of []) ∷ []) ∷
    [])
    ≡ true ∷ []
unfolding action_has_members type_of
scope-accepted = refl

scope-refused : map action_has_members (
    typed (codes "Scope") [] ∷
    typed (codes "Scope") ((codes "Actions", object_of []) ∷ []) ∷
    typed (codes "Scope") ((codes "inputs", object_of []) ∷ []) ∷
    [])
    ≡ false ∷ false ∷ false ∷ []
unfolding action_has_members type_of
scope-refused = refl

-- a condition; no branch need be there
if-accepted : map action_has_members (
    typed (codes "If") ((codes "expression", text (codes "@x")) ∷ []) ∷
    typed (codes "If") ((codes "expression", text (codes "x")) ∷ []) ∷
    typed (codes "If") ((codes "actions", object_of []) ∷ (codes "expression", object_of ((codes "and", list_of []) ∷ [])) ∷ []) ∷
    [])
    ≡ true ∷ true ∷ true ∷ []
unfolding action_has_members type_of
if-accepted = refl

if-refused : map action_has_members (
    typed (codes "If") [] ∷
    typed (codes "If") ((codes "expression", null) ∷ []) ∷
    typed (codes "If") ((codes "expression", boolean true) ∷ []) ∷
    typed (codes "If") ((codes "expression", object_of []) ∷ []) ∷
    typed (codes "If") ((codes "expression", list_of (text (codes "@x") ∷ [])) ∷ []) ∷
    typed (codes "If") ((codes "actions", object_of []) ∷ []) ∷
    [])
    ≡ false ∷ false ∷ false ∷ false ∷ false ∷ false ∷ []
unfolding action_has_members type_of
if-refused = refl

-- a text and cases, of which there may be none
switch-accepted : map action_has_members (
    typed (codes "Switch") ((codes "cases", object_of []) ∷ (codes "expression", text (codes "@x")) ∷ []) ∷
    typed (codes "Switch") ((codes "cases", object_of []) ∷ (codes "default", object_of []) ∷ (codes "expression", text []) ∷ []) ∷
    [])
    ≡ true ∷ true ∷ []
unfolding action_has_members type_of
switch-accepted = refl

switch-refused : map action_has_members (
    typed (codes "Switch") ((codes "cases", object_of []) ∷ []) ∷
    typed (codes "Switch") ((codes "expression", text (codes "@x")) ∷ []) ∷
    typed (codes "Switch") ((codes "cases", object_of []) ∷ (codes "expression", number (pos 5)) ∷ []) ∷
    typed (codes "Switch") ((codes "cases", object_of []) ∷ (codes "expression", null) ∷ []) ∷
    typed (codes "Switch") ((codes "cases", object_of []) ∷ (codes "expression", object_of ((codes "and", list_of []) ∷ [])) ∷ []) ∷
    typed (codes "Switch") ((codes "cases", list_of []) ∷ (codes "expression", text (codes "@x")) ∷ []) ∷
    typed (codes "Switch") ((codes "cases", null) ∷ (codes "expression", text (codes "@x")) ∷ []) ∷
    typed (codes "Switch") ((codes "default", object_of []) ∷ (codes "expression", text (codes "@x")) ∷ []) ∷
    [])
    ≡ false ∷ false ∷ false ∷ false ∷ false ∷ false ∷ false ∷ false ∷ []
unfolding action_has_members type_of
switch-refused = refl

-- texts and whole numbers as they stand, no two the same
cases-accepted : map action_has_members (
    typed (codes "Switch") ((codes "cases", object_of ((codes "a", object_of ((codes "case", text (codes "a")) ∷ [])) ∷ [])) ∷
    (codes "expression", text (codes "@x")) ∷ []) ∷
    typed (codes "Switch") ((codes "cases", object_of ((codes "a", object_of ((codes "case", number (pos 0)) ∷ [])) ∷ [])) ∷
    (codes "expression", text (codes "@x")) ∷ []) ∷
    typed (codes "Switch") ((codes "cases", object_of ((codes "a", object_of ((codes "case", number (negsuc 8)) ∷ [])) ∷ [])) ∷
    (codes "expression", text (codes "@x")) ∷ []) ∷
    typed (codes "Switch") ((codes "cases", object_of ((codes "a", object_of ((codes "case", text []) ∷ [])) ∷ [])) ∷
    (codes "expression", text (codes "@x")) ∷ []) ∷
    typed (codes "Switch") ((
      codes "cases",
      object_of ((codes "a", object_of ((codes "case", text (codes "@x")) ∷ [])) ∷
          (codes "b", object_of ((codes "case", text (codes "@y")) ∷ [])) ∷ []),
    ) ∷ (codes "expression", text (codes "@x")) ∷ []) ∷
    typed (codes "Switch") ((
      codes "cases",
      object_of ((codes "a", object_of ((codes "case", number (pos 1)) ∷ [])) ∷
          (codes "b", object_of ((codes "case", text (codes "1")) ∷ [])) ∷ []),
    ) ∷ (codes "expression", text (codes "@x")) ∷ []) ∷
    typed (codes "Switch") ((
      codes "cases",
      object_of ((codes "a", object_of ((codes "case", text (codes "a")) ∷ [])) ∷
          (codes "b", object_of ((codes "case", text (codes "A")) ∷ [])) ∷ []),
    ) ∷ (codes "expression", text (codes "@x")) ∷ []) ∷
    typed (codes "Switch") ((
      codes "cases",
      object_of ((codes "a", object_of ((codes "case", text (codes "a")) ∷ [])) ∷
          (codes "b", object_of ((codes "case", text (codes "a ")) ∷ [])) ∷ []),
    ) ∷ (codes "expression", text (codes "@x")) ∷ []) ∷
    typed (codes "Switch") ((
      codes "cases",
      object_of ((codes "a", object_of ((codes "case", number (pos 1)) ∷ [])) ∷
          (codes "b", object_of ((codes "case", number (negsuc 0)) ∷ [])) ∷ (
            codes "c",
            object_of ((codes "case", number (pos 2)) ∷
                []),
          ) ∷ (codes "d", object_of ((codes "case", text (codes "x")) ∷ [])) ∷
          (codes "e", object_of ((codes "case", text (codes "y")) ∷ [])) ∷ []),
    ) ∷ (codes "expression", text (codes "@x")) ∷ []) ∷
    [])
    ≡ true ∷ true ∷ true ∷ true ∷ true ∷ true ∷ true ∷ true ∷ true ∷ []
unfolding action_has_members type_of
cases-accepted = refl

cases-refused : map action_has_members (
    typed (codes "Switch") ((codes "cases", object_of ((codes "a", object_of []) ∷ [])) ∷ (codes "expression", text (codes "@x")) ∷ []) ∷
    typed (codes "Switch") ((codes "cases", object_of ((codes "a", object_of ((codes "case", null) ∷ [])) ∷ [])) ∷
    (codes "expression", text (codes "@x")) ∷ []) ∷
    typed (codes "Switch") ((codes "cases", object_of ((codes "a", object_of ((codes "case", boolean true) ∷ [])) ∷ [])) ∷
    (codes "expression", text (codes "@x")) ∷ []) ∷
    typed (codes "Switch") ((
      codes "cases",
      object_of ((codes "a", object_of ((codes "case", list_of (text (codes "a") ∷ [])) ∷ [])) ∷
          []),
    ) ∷ (codes "expression", text (codes "@x")) ∷ []) ∷
    typed (codes "Switch") ((
      codes "cases",
      object_of ((
        codes "a",
        object_of ((
          codes "case",
          object_of ((codes "a", number (pos 1)) ∷
              []),
        ) ∷ []),
      ) ∷ []),
    ) ∷ (codes "expression", text (codes "@x")) ∷ []) ∷
    typed (codes "Switch") ((
      codes "cases",
      object_of ((codes "a", object_of ((codes "case", text (codes "a")) ∷ [])) ∷
          (codes "b", object_of []) ∷ []),
    ) ∷ (codes "expression", text (codes "@x")) ∷ []) ∷
    typed (codes "Switch") ((
      codes "cases",
      object_of ((codes "a", object_of []) ∷
          (codes "b", object_of ((codes "case", text (codes "a")) ∷ [])) ∷ []),
    ) ∷ (codes "expression", text (codes "@x")) ∷ []) ∷
    typed (codes "Switch") ((
      codes "cases",
      object_of ((codes "a", object_of ((codes "case", text (codes "a")) ∷ [])) ∷
          (codes "b", object_of ((codes "case", text (codes "a")) ∷ [])) ∷ []),
    ) ∷ (codes "expression", text (codes "@x")) ∷ []) ∷
    typed (codes "Switch") ((
      codes "cases",
      object_of ((codes "a", object_of ((codes "case", number (pos 5)) ∷ [])) ∷
          (codes "b", object_of ((codes "case", number (pos 5)) ∷ [])) ∷ []),
    ) ∷ (codes "expression", text (codes "@x")) ∷ []) ∷
    typed (codes "Switch") ((
      codes "cases",
      object_of ((codes "a", object_of ((codes "case", text (codes "a")) ∷ [])) ∷
          (codes "b", object_of ((codes "case", text (codes "b")) ∷ [])) ∷ (
            codes "c",
            object_of ((codes "case", text (codes "a")) ∷
                []),
          ) ∷ []),
    ) ∷ (codes "expression", text (codes "@x")) ∷ []) ∷
    typed (codes "Switch") ((
      codes "cases",
      object_of ((codes "a", object_of ((codes "case", number (pos 1)) ∷ [])) ∷
          (codes "b", object_of ((codes "case", number (pos 2)) ∷ [])) ∷ (codes "c", object_of ((codes "case", number (pos 3)) ∷ [])) ∷
          (codes "d", object_of ((codes "case", number (pos 2)) ∷ [])) ∷ []),
    ) ∷ (codes "expression", text (codes "@x")) ∷ []) ∷
    typed (codes "Switch") ((
      codes "cases",
      object_of ((codes "a", object_of ((codes "case", text (codes "@x")) ∷ [])) ∷
          (codes "b", object_of ((codes "case", text (codes "@x")) ∷ [])) ∷ []),
    ) ∷ (codes "expression", text (codes "@x")) ∷ []) ∷
    typed (codes "Switch") ((codes "cases", object_of ((codes "a", object_of ((codes "Case", number (pos 1)) ∷ [])) ∷ [])) ∷
    (codes "expression", text (codes "@x")) ∷ []) ∷
    typed (codes "Switch") ((codes "cases", object_of ((codes "a", number (pos 1)) ∷ [])) ∷ (codes "expression", text (codes "@x")) ∷
    []) ∷
    [])
    ≡ false ∷ false ∷ false ∷ false ∷ false ∷ false ∷ false ∷ false ∷ false ∷ false ∷ false ∷ false ∷ false ∷ false ∷ []
unfolding action_has_members type_of
cases-refused = refl

-- a text or a list; no action need be there
foreach-accepted : map action_has_members (
    typed (codes "Foreach") ((codes "foreach", text (codes "@x")) ∷ []) ∷
    typed (codes "Foreach") ((codes "foreach", text []) ∷ []) ∷
    typed (codes "Foreach") ((codes "foreach", list_of []) ∷ []) ∷
    typed (codes "Foreach") ((codes "actions", object_of []) ∷ (codes "foreach", list_of (number (pos 1) ∷ text (codes "@x") ∷ [])) ∷
    []) ∷
    [])
    ≡ true ∷ true ∷ true ∷ true ∷ []
unfolding action_has_members type_of
foreach-accepted = refl

foreach-refused : map action_has_members (
    typed (codes "Foreach") [] ∷
    typed (codes "Foreach") ((codes "foreach", null) ∷ []) ∷
    typed (codes "Foreach") ((codes "foreach", number (pos 5)) ∷ []) ∷
    typed (codes "Foreach") ((codes "foreach", object_of []) ∷ []) ∷
    typed (codes "Foreach") ((codes "foreach", boolean true) ∷ []) ∷
    typed (codes "Foreach") ((codes "ForEach", list_of []) ∷ []) ∷
    [])
    ≡ false ∷ false ∷ false ∷ false ∷ false ∷ false ∷ []
unfolding action_has_members type_of
foreach-refused = refl

-- 1 to 50, where a path of objects leads there; with Sequential too
repetitions-accepted : map action_has_members (
    typed (codes "Foreach") ((codes "foreach", text (codes "@x")) ∷ (
      codes "runtimeConfiguration",
      object_of ((codes "concurrency", object_of ((codes "repetitions", number (pos 1)) ∷ [])) ∷
          []),
    ) ∷ []) ∷
    typed (codes "Foreach") ((codes "foreach", text (codes "@x")) ∷ (
      codes "runtimeConfiguration",
      object_of ((codes "concurrency", object_of ((codes "repetitions", number (pos 20)) ∷ [])) ∷
          []),
    ) ∷ []) ∷
    typed (codes "Foreach") ((codes "foreach", text (codes "@x")) ∷ (
      codes "runtimeConfiguration",
      object_of ((codes "concurrency", object_of ((codes "repetitions", number (pos 50)) ∷ [])) ∷
          []),
    ) ∷ []) ∷
    typed (codes "Foreach") ((codes "foreach", text (codes "@x")) ∷ (codes "operationOptions", text (codes "Sequential")) ∷ (
      codes "runtimeConfiguration",
      object_of ((codes "concurrency", object_of ((codes "repetitions", number (pos 50)) ∷ [])) ∷
          []),
    ) ∷ []) ∷
    typed (codes "Foreach") ((codes "foreach", list_of []) ∷ (codes "runtimeConfiguration", object_of []) ∷ []) ∷
    typed (codes "Foreach") ((codes "foreach", list_of []) ∷
    (codes "runtimeConfiguration", object_of ((codes "concurrency", object_of []) ∷ [])) ∷ []) ∷
    typed (codes "Foreach") ((codes "foreach", list_of []) ∷
    (codes "runtimeConfiguration", object_of ((codes "concurrency", number (pos 5)) ∷ [])) ∷ []) ∷
    typed (codes "Foreach") ((codes "foreach", list_of []) ∷ (
      codes "runtimeConfiguration",
      object_of ((codes "concurrency", object_of ((codes "Repetitions", number (pos 0)) ∷ [])) ∷
          []),
    ) ∷ []) ∷
    [])
    ≡ true ∷ true ∷ true ∷ true ∷ true ∷ true ∷ true ∷ true ∷ []
unfolding action_has_members type_of
repetitions-accepted = refl

repetitions-refused : map action_has_members (
    typed (codes "Foreach") ((codes "foreach", text (codes "@x")) ∷ (
      codes "runtimeConfiguration",
      object_of ((codes "concurrency", object_of ((codes "repetitions", number (pos 0)) ∷ [])) ∷
          []),
    ) ∷ []) ∷
    typed (codes "Foreach") ((codes "foreach", text (codes "@x")) ∷ (
      codes "runtimeConfiguration",
      object_of ((codes "concurrency", object_of ((codes "repetitions", number (pos 51)) ∷ [])) ∷
          []),
    ) ∷ []) ∷
    typed (codes "Foreach") ((codes "foreach", text (codes "@x")) ∷ (
      codes "runtimeConfiguration",
      object_of ((codes "concurrency", object_of ((codes "repetitions", number (negsuc 0)) ∷ [])) ∷
          []),
    ) ∷ []) ∷
    typed (codes "Foreach") ((codes "foreach", text (codes "@x")) ∷
    (codes "runtimeConfiguration", object_of ((codes "concurrency", object_of ((codes "repetitions", null) ∷ [])) ∷ [])) ∷ []) ∷
    typed (codes "Foreach") ((codes "foreach", text (codes "@x")) ∷ (
      codes "runtimeConfiguration",
      object_of ((codes "concurrency", object_of ((codes "repetitions", text (codes "5")) ∷ [])) ∷
          []),
    ) ∷ []) ∷
    typed (codes "Foreach") ((codes "foreach", text (codes "@x")) ∷
    (codes "runtimeConfiguration", object_of ((codes "concurrency", object_of ((codes "repetitions", boolean true) ∷ [])) ∷ [])) ∷
    []) ∷
    typed (codes "Foreach") ((codes "foreach", text (codes "@x")) ∷ (
      codes "runtimeConfiguration",
      object_of ((
        codes "concurrency",
        object_of ((
          codes "repetitions",
          list_of (number (pos 5) ∷
              []),
        ) ∷ []),
      ) ∷ []),
    ) ∷ []) ∷
    typed (codes "Foreach") ((codes "foreach", text (codes "@x")) ∷ (codes "operationOptions", text (codes "Sequential")) ∷ (
      codes "runtimeConfiguration",
      object_of ((codes "concurrency", object_of ((codes "repetitions", number (pos 51)) ∷ [])) ∷
          []),
    ) ∷ []) ∷
    [])
    ≡ false ∷ false ∷ false ∷ false ∷ false ∷ false ∷ false ∷ false ∷ []
unfolding action_has_members type_of
repetitions-refused = refl

-- on another type they are ignored
repetitions_elsewhere-accepted : map action_has_members (
    typed (codes "Scope") ((codes "actions", object_of []) ∷ (
      codes "runtimeConfiguration",
      object_of ((codes "concurrency", object_of ((codes "repetitions", number (pos 51)) ∷ [])) ∷
          []),
    ) ∷ []) ∷
    typed (codes "Until") ((codes "expression", text (codes "@x")) ∷ (
      codes "runtimeConfiguration",
      object_of ((codes "concurrency", object_of ((codes "repetitions", number (pos 0)) ∷ [])) ∷
          []),
    ) ∷ []) ∷
    [])
    ≡ true ∷ true ∷ []
unfolding action_has_members type_of
repetitions_elsewhere-accepted = refl

-- a condition; no action and no limit need be there
until-accepted : map action_has_members (
    typed (codes "Until") ((codes "expression", text (codes "@x")) ∷ []) ∷
    typed (codes "Until") ((codes "actions", object_of []) ∷ (codes "expression", object_of ((codes "not", text (codes "@x")) ∷ [])) ∷
    []) ∷
    typed (codes "Until") ((codes "expression", text (codes "@x")) ∷ (codes "limit", object_of []) ∷ []) ∷
    typed (codes "Until") ((codes "expression", text (codes "@x")) ∷ (codes "limit", number (pos 5)) ∷ []) ∷
    typed (codes "Until") ((codes "expression", text (codes "@x")) ∷ (codes "limit", null) ∷ []) ∷
    typed (codes "Until") ((codes "expression", text (codes "@x")) ∷ (
      codes "limit",
      object_of ((codes "Count", number (pos 0)) ∷
          []),
    ) ∷ []) ∷
    [])
    ≡ true ∷ true ∷ true ∷ true ∷ true ∷ true ∷ []
unfolding action_has_members type_of
until-accepted = refl

until-refused : map action_has_members (
    typed (codes "Until") [] ∷
    typed (codes "Until") ((codes "expression", null) ∷ []) ∷
    typed (codes "Until") ((codes "expression", boolean false) ∷ []) ∷
    typed (codes "Until") ((codes "expression", number (pos 5)) ∷ []) ∷
    typed (codes "Until") ((codes "limit", object_of []) ∷ []) ∷
    [])
    ≡ false ∷ false ∷ false ∷ false ∷ false ∷ []
unfolding action_has_members type_of
until-refused = refl

-- 1 to 5000
limit_count-accepted : map action_has_members (
    typed (codes "Until") ((codes "expression", text (codes "@x")) ∷ (
      codes "limit",
      object_of ((codes "count", number (pos 1)) ∷
          []),
    ) ∷ []) ∷
    typed (codes "Until") ((codes "expression", text (codes "@x")) ∷ (
      codes "limit",
      object_of ((codes "count", number (pos 60)) ∷
          []),
    ) ∷ []) ∷
    typed (codes "Until") ((codes "expression", text (codes "@x")) ∷ (
      codes "limit",
      object_of ((codes "count", number (pos 5000)) ∷
          []),
    ) ∷ []) ∷
    [])
    ≡ true ∷ true ∷ true ∷ []
unfolding action_has_members type_of
limit_count-accepted = refl

limit_count-refused : map action_has_members (
    typed (codes "Until") ((codes "expression", text (codes "@x")) ∷ (
      codes "limit",
      object_of ((codes "count", number (pos 0)) ∷
          []),
    ) ∷ []) ∷
    typed (codes "Until") ((codes "expression", text (codes "@x")) ∷ (
      codes "limit",
      object_of ((codes "count", number (pos 5001)) ∷
          []),
    ) ∷ []) ∷
    typed (codes "Until") ((codes "expression", text (codes "@x")) ∷ (
      codes "limit",
      object_of ((codes "count", number (negsuc 0)) ∷
          []),
    ) ∷ []) ∷
    typed (codes "Until") ((codes "expression", text (codes "@x")) ∷ (codes "limit", object_of ((codes "count", null) ∷ [])) ∷ []) ∷
    typed (codes "Until") ((codes "expression", text (codes "@x")) ∷ (
      codes "limit",
      object_of ((codes "count", text (codes "60")) ∷
          []),
    ) ∷ []) ∷
    typed (codes "Until") ((codes "expression", text (codes "@x")) ∷ (codes "limit", object_of ((codes "count", boolean true) ∷ [])) ∷
    []) ∷
    [])
    ≡ false ∷ false ∷ false ∷ false ∷ false ∷ false ∷ []
unfolding action_has_members type_of
limit_count-refused = refl

-- a duration
limit_timeout-accepted : map action_has_members (
    typed (codes "Until") ((codes "expression", text (codes "@x")) ∷
    (codes "limit", object_of ((codes "timeout", text (codes "PT1H")) ∷ [])) ∷ []) ∷
    typed (codes "Until") ((codes "expression", text (codes "@x")) ∷
    (codes "limit", object_of ((codes "timeout", text (codes "P1D")) ∷ [])) ∷ []) ∷
    typed (codes "Until") ((codes "expression", text (codes "@x")) ∷ (
      codes "limit",
      object_of ((codes "count", number (pos 1)) ∷
          (codes "timeout", text (codes "PT0S")) ∷ []),
    ) ∷ []) ∷
    [])
    ≡ true ∷ true ∷ true ∷ []
unfolding action_has_members type_of
limit_timeout-accepted = refl

limit_timeout-refused : map action_has_members (
    typed (codes "Until") ((codes "expression", text (codes "@x")) ∷ (
      codes "limit",
      object_of ((codes "timeout", text (codes "1H")) ∷
          []),
    ) ∷ []) ∷
    typed (codes "Until") ((codes "expression", text (codes "@x")) ∷
    (codes "limit", object_of ((codes "timeout", text (codes "P1W")) ∷ [])) ∷ []) ∷
    typed (codes "Until") ((codes "expression", text (codes "@x")) ∷ (codes "limit", object_of ((codes "timeout", text []) ∷ [])) ∷ []) ∷
    typed (codes "Until") ((codes "expression", text (codes "@x")) ∷ (codes "limit", object_of ((codes "timeout", null) ∷ [])) ∷ []) ∷
    typed (codes "Until") ((codes "expression", text (codes "@x")) ∷ (
      codes "limit",
      object_of ((codes "timeout", number (pos 60)) ∷
          []),
    ) ∷ []) ∷
    typed (codes "Until") ((codes "expression", text (codes "@x")) ∷ (
      codes "limit",
      object_of ((codes "count", number (pos 5001)) ∷
          (codes "timeout", text (codes "PT1H")) ∷ []),
    ) ∷ []) ∷
    typed (codes "Until") ((codes "expression", text (codes "@x")) ∷ (
      codes "limit",
      object_of ((codes "count", number (pos 60)) ∷
          (codes "timeout", text (codes "PT")) ∷ []),
    ) ∷ []) ∷
    [])
    ≡ false ∷ false ∷ false ∷ false ∷ false ∷ false ∷ false ∷ []
unfolding action_has_members type_of
limit_timeout-refused = refl
