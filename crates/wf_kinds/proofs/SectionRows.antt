-- The members of triggers and outputs at worked values.
use Rattle.std.proofs.Common.{◌≡◌, List, [], ◌∷◌, map, true, false, refl}
use Rattle.std.specs.Prelude.{codes, pos}
use Rattle.wf_val.specs.ValueTree.{ValueTree, null, number, text, list, object, trees, Member, members}
use Rattle.wf_kinds.specs.Members.{output_has_members, trigger_has_members}

abbrev list_of : List ValueTree → ValueTree
list_of ts = list (trees ts)

abbrev object_of : List Member → ValueTree
object_of ms = object (members ms)

-- what else a trigger has is ignored
trigger-accepted : map trigger_has_members (
    object_of [] ∷
    object_of ((codes "operationOptions", number (pos 5)) ∷ (codes "runtimeConfiguration", number (pos 1)) ∷
    (codes "type", text (codes "Request")) ∷ []) ∷
    [])
    ≡ true ∷ true ∷ []
unfolding trigger_has_members
trigger-accepted = refl

split-accepted : map trigger_has_members (
    object_of ((codes "splitOn", text (codes "@x")) ∷ []) ∷
    object_of ((codes "splitOn", text []) ∷ []) ∷
    [])
    ≡ true ∷ true ∷ []
unfolding trigger_has_members
split-accepted = refl

split-refused : map trigger_has_members (
    object_of ((codes "splitOn", null) ∷ []) ∷
    object_of ((codes "splitOn", number (pos 5)) ∷ []) ∷
    object_of ((codes "splitOn", list_of (text (codes "@x") ∷ [])) ∷ []) ∷
    object_of ((codes "splitOn", object_of []) ∷ []) ∷
    [])
    ≡ false ∷ false ∷ false ∷ false ∷ []
unfolding trigger_has_members
split-refused = refl

-- a list of objects with a text each
trigger_conditions-accepted : map trigger_has_members (
    object_of ((codes "conditions", list_of []) ∷ []) ∷
    object_of ((codes "conditions", list_of (object_of ((codes "expression", text (codes "@x")) ∷ []) ∷ [])) ∷ []) ∷
    object_of ((
      codes "conditions",
      list_of (object_of ((codes "expression", text []) ∷ []) ∷
          object_of ((codes "dependsOn", number (pos 1)) ∷ (codes "expression", text (codes "@y")) ∷ []) ∷ []),
    ) ∷ []) ∷
    [])
    ≡ true ∷ true ∷ true ∷ []
unfolding trigger_has_members
trigger_conditions-accepted = refl

trigger_conditions-refused : map trigger_has_members (
    object_of ((codes "conditions", null) ∷ []) ∷
    object_of ((codes "conditions", object_of []) ∷ []) ∷
    object_of ((codes "conditions", text (codes "@x")) ∷ []) ∷
    object_of ((codes "conditions", list_of (text (codes "@x") ∷ [])) ∷ []) ∷
    object_of ((codes "conditions", list_of (object_of [] ∷ [])) ∷ []) ∷
    object_of ((codes "conditions", list_of (object_of ((codes "expression", null) ∷ []) ∷ [])) ∷ []) ∷
    object_of ((
      codes "conditions",
      list_of (object_of ((codes "expression", object_of ((codes "and", list_of []) ∷ [])) ∷ []) ∷
          []),
    ) ∷ []) ∷
    object_of ((
      codes "conditions",
      list_of (object_of ((codes "expression", text (codes "@x")) ∷ []) ∷
          object_of ((codes "Expression", text (codes "@x")) ∷ []) ∷ []),
    ) ∷ []) ∷
    object_of ((codes "conditions", list_of (object_of ((codes "expression", text (codes "@x")) ∷ []) ∷ [])) ∷
    (codes "splitOn", number (pos 5)) ∷ []) ∷
    [])
    ≡ false ∷ false ∷ false ∷ false ∷ false ∷ false ∷ false ∷ false ∷ false ∷ []
unfolding trigger_has_members
trigger_conditions-refused = refl

output-accepted : map output_has_members (
    object_of ((codes "value", null) ∷ []) ∷
    object_of ((codes "type", number (pos 5)) ∷ (codes "value", text (codes "@x")) ∷ []) ∷
    [])
    ≡ true ∷ true ∷ []
unfolding output_has_members
output-accepted = refl

output-refused : map output_has_members (
    object_of [] ∷
    object_of ((codes "Value", number (pos 1)) ∷ []) ∷
    object_of ((codes "type", text (codes "String")) ∷ []) ∷
    [])
    ≡ false ∷ false ∷ false ∷ []
unfolding output_has_members
output-refused = refl
