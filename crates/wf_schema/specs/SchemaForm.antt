-- The form of a schema, as a table: what each part of it has to be.
use Rattle.std.specs.Prelude.{ℕ, List, [], ◌∷◌, Bool, true, false, ◌||◌, Option, Some, None, if◌then◌else◌, bytes_eq, codes, length, nat_lt}
use Rattle.std.specs.List.{list_any}
use Rattle.wf_places.specs.Form.{Form}
use Rattle.wf_val.specs.Get.{is_object}
use Rattle.wf_val.specs.ValueTree.{ValueTree, text, list, items}
use Rattle.wf_schema.specs.declared.part.Part.{Part}

abbrev pub type_names : List (List ℕ)
type_names =
    codes "null" ∷ codes "boolean" ∷ codes "integer" ∷ codes "number" ∷ codes "string" ∷ codes "array" ∷ codes "object" ∷ []

abbrev pub is_type : ValueTree → Bool
is_type (text s) = list_any (bytes_eq s) type_names
is_type t = false

-- a type, or a list that isn't empty; of its items more is asked
abbrev pub is_type_or_list : ValueTree → Bool
is_type_or_list (list ts) = nat_lt 0 (length (items ts))
is_type_or_list t = is_type t

abbrev pub is_text : ValueTree → Bool
is_text (text s) = true
is_text t = false

abbrev pub is_list : ValueTree → Bool
is_list (list ts) = true
is_list t = false

abbrev pub is_right : Part → ValueTree → Bool
is_right Part.Schema = is_object
is_right Part.Types = is_type_or_list
is_right Part.Type = is_type
is_right Part.Properties = is_object
is_right Part.Required = is_list
is_right Part.Name = is_text
is_right Part.Items = λ t. is_object t || is_list t
is_right Part.Enum = is_list

abbrev pub schema_member : List ℕ → Option Part
schema_member name =
    if bytes_eq name (codes "enum") then Some Part.Enum else
    (if bytes_eq name (codes "items") then Some Part.Items else
    (if bytes_eq name (codes "properties") then Some Part.Properties else
    (if bytes_eq name (codes "required") then Some Part.Required else
    (if bytes_eq name (codes "type") then Some Part.Types else None))))

-- `items` that are an object are a schema; as a list they are ignored
abbrev pub part_member : Part → List ℕ → Option Part
part_member Part.Schema name = schema_member name
part_member Part.Items name = schema_member name
part_member Part.Properties name = Some Part.Schema
part_member part name = None

abbrev pub part_item : Part → Option Part
part_item Part.Types = Some Part.Type
part_item Part.Required = Some Part.Name
part_item part = None

-- further members are ignored, and none must be there
abbrev pub schema_form : Form Part
schema_form = record {
  is_right = is_right;
  needed = λ part. [];
  is_closed = λ part. false;
  member = part_member;
  item = part_item;
  beside = λ part t. [];
}
