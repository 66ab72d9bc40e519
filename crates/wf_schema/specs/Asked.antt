-- What a schema asks of a value as a whole, by its `type`, `required` and `enum` (JSON Schema Validation, draft 4, sections 5.4.3, 5.5.1
-- and 5.5.2). What is in the value is asked by other schemas.
use Rattle.std.specs.Prelude.{ℕ, List, Bool, true, false, ◌&&◌, ◌||◌, Option, Some, None, bytes_eq, codes, is_some}
use Rattle.std.specs.List.{list_all, list_any}
use Rattle.std.specs.Ordering.{is_eq}
use Rattle.wf_val.specs.Get.{get}
use Rattle.wf_val.specs.ValueOrder.{order}
use Rattle.wf_val.specs.ValueTree.{ValueTree, null, boolean, number, text, list, object, items}

-- a number is whole, so it is an `integer` and a `number`
abbrev pub is_of_type : List ℕ → ValueTree → Bool
is_of_type name null = bytes_eq name (codes "null")
is_of_type name (boolean b) = bytes_eq name (codes "boolean")
is_of_type name (number n) = bytes_eq name (codes "integer") || bytes_eq name (codes "number")
is_of_type name (text s) = bytes_eq name (codes "string")
is_of_type name (list ts) = bytes_eq name (codes "array")
is_of_type name (object ms) = bytes_eq name (codes "object")

-- the same, of a type that a schema names
abbrev pub is_of_named : ValueTree → ValueTree → Bool
is_of_named v (text name) = is_of_type name v
is_of_named v t = false

-- the value is of one of the types that are listed, or of the one that is named
abbrev pub is_of_types : Option ValueTree → ValueTree → Bool
is_of_types None v = true
is_of_types (Some (list names)) v = list_any (is_of_named v) (items names)
is_of_types (Some name) v = is_of_named v name

-- an object has the members that are required, whatever their values; of anything else none are
abbrev pub has_name : ValueTree → ValueTree → Bool
has_name v (text name) = is_some (get name v)
has_name v t = true

abbrev pub has_required : Option ValueTree → ValueTree → Bool
has_required (Some (list names)) (object ms) = list_all (has_name (object ms)) (items names)
has_required names v = true

-- the value is the same as one of those that are listed
abbrev pub is_same : ValueTree → ValueTree → Bool
is_same v t = is_eq (order v t)

abbrev pub is_listed : Option ValueTree → ValueTree → Bool
is_listed (Some (list ts)) v = list_any (is_same v) (items ts)
is_listed values v = true

-- all of these, by a schema
abbrev pub is_as_asked : ValueTree → ValueTree → Bool
is_as_asked s v = is_of_types (get (codes "type") s) v && (has_required (get (codes "required") s) v && is_listed (get (codes "enum") s) v)
