-- The schema of a ParseJson, at worked values: one that isn't there, one that is a schema, and what is none, at each depth.
use Rattle.std.proofs.Common.{◌≡◌, List, [], ◌∷◌, map, true, false, refl}
use Rattle.std.specs.Prelude.{codes, pos}
use Rattle.wf_val.specs.ValueTree.{ValueTree, null, boolean, number, text, list, object, trees, Member, members}
use Rattle.wf_kinds.specs.ActionType.{type_of}
use Rattle.wf_kinds.specs.Members.{action_has_members}

abbrev list_of : List ValueTree → ValueTree
list_of ts = list (trees ts)

abbrev object_of : List Member → ValueTree
object_of ms = object (members ms)

-- an action with this schema
abbrev parsing : ValueTree → ValueTree
parsing schema = object_of ((codes "inputs", object_of ((codes "content", text (codes "@x")) ∷ (codes "schema", schema) ∷ []))
    ∷ (codes "type", text (codes "ParseJson")) ∷ [])

schemas-accepted : map action_has_members (
    parsing (object_of []) ∷
    parsing (object_of ((codes "type", text (codes "object")) ∷ [])) ∷
    parsing (object_of ((codes "type", list_of (text (codes "integer") ∷ text (codes "null") ∷ [])) ∷ [])) ∷
    parsing (object_of ((
      codes "properties",
      object_of (
          (codes "id", object_of ((codes "type", text (codes "integer")) ∷ [])) ∷ (
            codes "tags",
            object_of ((codes "items", object_of ((codes "type", text (codes "string")) ∷ [])) ∷
                (codes "type", text (codes "array")) ∷ []),
          ) ∷ []),
    ) ∷
    (codes "required", list_of (text (codes "id") ∷ [])) ∷
    (codes "type", text (codes "object")) ∷ [])) ∷
    -- items in a list are ignored, and so is a member of another name
    parsing (object_of ((codes "items", list_of (number (pos 5) ∷ [])) ∷ [])) ∷
    parsing (object_of ((codes "$schema", number (pos 5)) ∷ (codes "Type", number (pos 5)) ∷ [])) ∷
    -- no text in it is a template
    parsing (object_of ((codes "description", text (codes "@bad(")) ∷ (codes "enum", list_of (text (codes "@{") ∷ [])) ∷
    (codes "required", list_of (text (codes "@variables('v')") ∷ [])) ∷ [])) ∷
    [])
    ≡ true ∷ true ∷ true ∷ true ∷ true ∷ true ∷ true ∷ []
unfolding action_has_members type_of
schemas-accepted = refl

schemas-refused : map action_has_members (
    parsing null ∷
    parsing (boolean true) ∷
    parsing (list_of []) ∷
    parsing (text (codes "@x")) ∷
    parsing (object_of ((codes "items", number (pos 5)) ∷ [])) ∷
    parsing (object_of ((codes "type", text (codes "float")) ∷ [])) ∷
    parsing (object_of ((codes "type", text (codes "Object")) ∷ [])) ∷
    parsing (object_of ((codes "type", list_of []) ∷ [])) ∷
    parsing (object_of ((codes "type", null) ∷ [])) ∷
    parsing (object_of ((codes "enum", object_of []) ∷ [])) ∷
    parsing (object_of ((codes "required", list_of (number (pos 5) ∷ [])) ∷ [])) ∷
    parsing (object_of ((codes "properties", list_of []) ∷ [])) ∷
    -- what stands in it is looked at at every depth
    parsing (object_of ((codes "properties", object_of ((codes "a", boolean true) ∷ [])) ∷ [])) ∷
    parsing (object_of ((
      codes "items",
      object_of ((
        codes "properties",
        object_of (
            (codes "a", object_of []) ∷ (codes "b", object_of ((codes "type", text (codes "any")) ∷ [])) ∷ []),
      ) ∷ []),
    ) ∷ [])) ∷
    [])
    ≡ false ∷ false ∷ false ∷ false ∷ false ∷ false ∷ false ∷ false ∷ false ∷ false ∷ false ∷ false ∷ false ∷ false ∷ []
unfolding action_has_members type_of
schemas-refused = refl

-- a schema beside content that isn't there is no ParseJson; a schema of another action is ignored
schemas-elsewhere : map action_has_members (
    object_of ((codes "inputs", object_of ((codes "schema", object_of []) ∷ [])) ∷ (codes "type", text (codes "ParseJson")) ∷ []) ∷
    object_of ((codes "inputs", object_of ((codes "schema", number (pos 5)) ∷ [])) ∷ (codes "type", text (codes "Compose")) ∷ []) ∷
    object_of ((codes "inputs", object_of ((codes "content", null) ∷ [])) ∷ (codes "schema", number (pos 5)) ∷
    (codes "type", text (codes "ParseJson")) ∷ []) ∷
    [])
    ≡ false ∷ true ∷ true ∷ []
unfolding action_has_members type_of
schemas-elsewhere = refl
