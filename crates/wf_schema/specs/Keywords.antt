-- What a schema is: the part of JSON Schema (draft 4, as ParseJson has it) that is looked at, in one definition.
use Rattle.std.specs.Prelude.{ℕ, List, Bool, true, false, ◌&&◌, ◌||◌, if◌then◌else◌, bytes_eq, codes, length, nat_lt}
use Rattle.std.specs.List.{list_all}
use Rattle.wf_val.specs.ValueTree.{ValueTree, list, object, items, MemberTrees, no_members, member_then}
use Rattle.wf_schema.specs.SchemaForm.{is_list, is_text, is_type}

-- `type` is one of the seven, or a list of such that isn't empty
abbrev pub are_types : ValueTree → Bool
are_types (list ts) = nat_lt 0 (length (items ts)) && list_all is_type (items ts)
are_types t = is_type t

-- `required` is a list of texts
abbrev pub are_names : ValueTree → Bool
are_names (list ts) = list_all is_text (items ts)
are_names t = false

-- What is asked of the member of a name: `items` are a list or a schema, `properties` an object of schemas, `enum` is a list. Any other is
-- ignored.
abbrev pub is_keyword : List ℕ → ValueTree → Bool → Bool → Bool
is_keyword name t is_one are_properties =
    if bytes_eq name (codes "enum") then is_list t
    else if bytes_eq name (codes "items") then is_list t || is_one
    else if bytes_eq name (codes "properties") then are_properties
    else if bytes_eq name (codes "required") then are_names t
    else if bytes_eq name (codes "type") then are_types t
    else true

-- an object whose members are as their names ask
abbrev mutual
  pub is_schema : ValueTree → Bool
  is_schema (object ms) = are_keywords ms
  is_schema t = false

  pub are_keywords : MemberTrees → Bool
  are_keywords no_members = true
  are_keywords (member_then name t ms) = is_keyword name t (is_schema t) (are_properties t) && are_keywords ms

  pub are_properties : ValueTree → Bool
  are_properties (object ms) = are_schemas ms
  are_properties t = false

  pub are_schemas : MemberTrees → Bool
  are_schemas no_members = true
  are_schemas (member_then name t ms) = is_schema t && are_schemas ms
