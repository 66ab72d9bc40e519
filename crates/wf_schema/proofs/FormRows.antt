-- What is a schema and what is none, at worked values: the least place at which each is none, decided by hand.
use Rattle.std.proofs.Common.{◌≡◌, ℕ, List, [], ◌∷◌, map, Option, Some, None, pos, true, refl}
use Rattle.std.specs.Fmt.{digits}
use Rattle.std.specs.Prelude.{codes, negsuc, Ok, Err}
use Rattle.wf_places.specs.Pointer.{least}
use Rattle.wf_schema.specs.Reading.{flaws, schema_of}
use Rattle.wf_schema.specs.declared.fault.SchemaFault.TheVariants.{Form}
use Rattle.wf_val.specs.ValueTree.{ValueTree, null, boolean, number, text, list, object, trees, members, Member}

abbrev of : List Member → ValueTree
of ms = object (members ms)

abbrev items : List ValueTree → ValueTree
items ts = list (trees ts)

abbrev n : ℕ → ValueTree
n k = number (pos k)

abbrev word : List ℕ → ValueTree
word s = text s

abbrev typed : List ℕ → ValueTree
typed s = of ((codes "type", word s) ∷ [])

-- the least place at which a value is no schema
abbrev wrong : ValueTree → Option (List ℕ)
wrong t = least (flaws t)

-- an object, which may be empty
whole : map wrong (
    of [] ∷
    null ∷
    boolean true ∷
    n 5 ∷
    word (codes "object") ∷
    items [] ∷
    items (of [] ∷ []) ∷
    [])
    ≡ None ∷ Some [] ∷ Some [] ∷ Some [] ∷ Some [] ∷ Some [] ∷ Some [] ∷ []
whole = refl

-- each of the seven names, exactly
type-names : map wrong (
    typed (codes "null") ∷
    typed (codes "boolean") ∷
    typed (codes "integer") ∷
    typed (codes "number") ∷
    typed (codes "string") ∷
    typed (codes "array") ∷
    typed (codes "object") ∷
    [])
    ≡ None ∷ None ∷ None ∷ None ∷ None ∷ None ∷ None ∷ []
type-names = refl

type-other_names : map wrong (
    typed (codes "Null") ∷
    typed (codes "NULL") ∷
    typed (codes "nul") ∷
    typed (codes "int") ∷
    typed (codes "float") ∷
    typed (codes "bool") ∷
    typed (codes "text") ∷
    typed (codes "list") ∷
    typed (codes "any") ∷
    typed (codes " string") ∷
    typed (codes "string ") ∷
    of ((codes "type", word []) ∷ []) ∷
    [])
    ≡ Some (codes "/type") ∷ Some (codes "/type") ∷ Some (codes "/type") ∷ Some (codes "/type") ∷ Some (codes "/type") ∷
    Some (codes "/type") ∷ Some (codes "/type") ∷ Some (codes "/type") ∷ Some (codes "/type") ∷ Some (codes "/type") ∷
    Some (codes "/type") ∷ Some (codes "/type") ∷ []
type-other_names = refl

type-other_kinds : map wrong (
    of ((codes "type", null) ∷ []) ∷
    of ((codes "type", boolean true) ∷ []) ∷
    of ((codes "type", n 0) ∷ []) ∷
    of ((codes "type", number (negsuc 0)) ∷ []) ∷
    of ((codes "type", of []) ∷ []) ∷
    of ((codes "type", typed (codes "null")) ∷ []) ∷
    [])
    ≡ Some (codes "/type") ∷ Some (codes "/type") ∷ Some (codes "/type") ∷ Some (codes "/type") ∷ Some (codes "/type") ∷
    Some (codes "/type") ∷ []
type-other_kinds = refl

-- a list of them, which isn't empty; one may stand twice
type-lists : map wrong (
    of ((codes "type", items []) ∷ []) ∷
    of ((codes "type", items (word (codes "null") ∷ [])) ∷ []) ∷
    of ((
      codes "type",
      items (word (codes "null") ∷ word (codes "boolean") ∷ word (codes "integer") ∷ word (codes "number") ∷
          word (codes "string") ∷ word (codes "array") ∷ word (codes "object") ∷ []),
    ) ∷ []) ∷
    of ((codes "type", items (word (codes "null") ∷ word (codes "null") ∷ [])) ∷ []) ∷
    [])
    ≡ Some (codes "/type") ∷ None ∷ None ∷ None ∷ []
type-lists = refl

-- the least item by the bytes of its pointer
type-items : map wrong (
    of ((codes "type", items (word (codes "null") ∷ word (codes "Null") ∷ [])) ∷ []) ∷
    of ((codes "type", items (null ∷ [])) ∷ []) ∷
    of ((codes "type", items (items (word (codes "null") ∷ []) ∷ [])) ∷ []) ∷
    of ((codes "type", items (word (codes "x") ∷ word (codes "y") ∷ [])) ∷ []) ∷
    of ((
      codes "type",
      items (word (codes "null") ∷ word (codes "null") ∷ word (codes "x") ∷ word (codes "null") ∷
          word (codes "null") ∷ word (codes "null") ∷ word (codes "null") ∷ word (codes "null") ∷ word (codes "null") ∷
          word (codes "null") ∷ word (codes "x") ∷ []),
    ) ∷ []) ∷
    [])
    ≡ Some (codes "/type/1") ∷ Some (codes "/type/0") ∷ Some (codes "/type/0") ∷ Some (codes "/type/0") ∷ Some (codes "/type/10") ∷ []
unfolding digits
type-items = refl

-- an object of schemas; the names in it are names of members, and none means more
properties-object : map wrong (
    of ((codes "properties", of []) ∷ []) ∷
    of ((codes "properties", null) ∷ []) ∷
    of ((codes "properties", items []) ∷ []) ∷
    of ((codes "properties", items (n 5 ∷ [])) ∷ []) ∷
    of ((codes "properties", word (codes "x")) ∷ []) ∷
    of ((codes "properties", boolean true) ∷ []) ∷
    of ((codes "properties", of ((codes "a", of []) ∷ [])) ∷ []) ∷
    of ((codes "properties", of ((codes "a", of []) ∷ (codes "b", typed (codes "null")) ∷ [])) ∷ []) ∷
    of ((codes "properties", of ((codes "type", typed (codes "string")) ∷ [])) ∷ []) ∷
    of ((codes "properties", typed (codes "string")) ∷ []) ∷
    of ((codes "properties", of ((codes "properties", of []) ∷ [])) ∷ []) ∷
    of ((codes "properties", of ((codes "enum", n 5) ∷ [])) ∷ []) ∷
    [])
    ≡ None ∷ Some (codes "/properties") ∷ Some (codes "/properties") ∷ Some (codes "/properties") ∷ Some (codes "/properties") ∷
    Some (codes "/properties") ∷ None ∷ None ∷ None ∷ Some (codes "/properties/type") ∷ None ∷ Some (codes "/properties/enum") ∷ []
properties-object = refl

-- each of them
properties-inner : map wrong (
    of ((codes "properties", of ((codes "a", null) ∷ [])) ∷ []) ∷
    of ((codes "properties", of ((codes "a", items []) ∷ [])) ∷ []) ∷
    of ((codes "properties", of ((codes "a", boolean true) ∷ [])) ∷ []) ∷
    of ((codes "properties", of ((codes "a", of ((codes "type", n 5) ∷ [])) ∷ [])) ∷ []) ∷
    of ((codes "properties", of (([], n 5) ∷ [])) ∷ []) ∷
    of ((codes "properties", of ((codes "a/b", n 5) ∷ [])) ∷ []) ∷
    of ((codes "properties", of ((codes "a~b", n 5) ∷ [])) ∷ []) ∷
    of ((codes "properties", of ((codes "~1", n 5) ∷ [])) ∷ []) ∷
    [])
    ≡ Some (codes "/properties/a") ∷ Some (codes "/properties/a") ∷ Some (codes "/properties/a") ∷ Some (codes "/properties/a/type") ∷
    Some (codes "/properties/") ∷ Some (codes "/properties/a~1b") ∷ Some (codes "/properties/a~0b") ∷ Some (codes "/properties/~01") ∷ []
properties-inner = refl

-- the least by the bytes of the pointers, which isn't that by the names
properties-least : map wrong (
    of ((codes "properties", of ((codes "a", n 5) ∷ (codes "b", n 5) ∷ [])) ∷ []) ∷
    of ((codes "properties", of ((codes "a/", n 5) ∷ (codes "a0", n 5) ∷ [])) ∷ []) ∷
    of ((codes "properties", of ((codes "a", of ((codes "type", n 5) ∷ [])) ∷ (codes "a-b", n 5) ∷ [])) ∷ []) ∷
    of ((codes "properties", of ((codes "a", of ((codes "type", n 5) ∷ [])) ∷ (codes "a0", n 5) ∷ [])) ∷ []) ∷
    of ((codes "properties", of ((codes "A", of []) ∷ (codes "Z", n 5) ∷ (codes "a", n 5) ∷ [])) ∷ []) ∷
    [])
    ≡ Some (codes "/properties/a") ∷ Some (codes "/properties/a0") ∷ Some (codes "/properties/a-b") ∷ Some (codes "/properties/a/type") ∷
    Some (codes "/properties/Z") ∷ []
properties-least = refl

-- a list of texts, which may be empty; one may stand twice
required : map wrong (
    of ((codes "required", items []) ∷ []) ∷
    of ((codes "required", items (word (codes "a") ∷ [])) ∷ []) ∷
    of ((codes "required", items (word [] ∷ word (codes "a") ∷ word (codes "a") ∷ [])) ∷ []) ∷
    of ((codes "required", null) ∷ []) ∷
    of ((codes "required", word (codes "a")) ∷ []) ∷
    of ((codes "required", boolean true) ∷ []) ∷
    of ((codes "required", of []) ∷ []) ∷
    of ((codes "required", items (n 1 ∷ [])) ∷ []) ∷
    of ((codes "required", items (word (codes "a") ∷ null ∷ [])) ∷ []) ∷
    of ((codes "required", items (items (word (codes "a") ∷ []) ∷ [])) ∷ []) ∷
    of ((
      codes "required",
      items (word (codes "a") ∷ word (codes "a") ∷ n 5 ∷ word (codes "a") ∷ word (codes "a") ∷
          word (codes "a") ∷ word (codes "a") ∷ word (codes "a") ∷ word (codes "a") ∷ word (codes "a") ∷ n 5 ∷ []),
    ) ∷ []) ∷
    [])
    ≡ None ∷ None ∷ None ∷ Some (codes "/required") ∷ Some (codes "/required") ∷ Some (codes "/required") ∷ Some (codes "/required") ∷
    Some (codes "/required/0") ∷ Some (codes "/required/1") ∷ Some (codes "/required/0") ∷ Some (codes "/required/10") ∷ []
unfolding digits
required = refl

-- a schema, or a list, in which nothing is asked
items-forms : map wrong (
    of ((codes "items", of []) ∷ []) ∷
    of ((codes "items", items []) ∷ []) ∷
    of ((codes "items", items (n 5 ∷ null ∷ [])) ∷ []) ∷
    of ((codes "items", items (of ((codes "type", n 5) ∷ []) ∷ [])) ∷ []) ∷
    of ((codes "items", null) ∷ []) ∷
    of ((codes "items", boolean true) ∷ []) ∷
    of ((codes "items", n 5) ∷ []) ∷
    of ((codes "items", word (codes "null")) ∷ []) ∷
    of ((codes "items", typed (codes "Null")) ∷ []) ∷
    of ((codes "items", of ((codes "items", of ((codes "items", n 5) ∷ [])) ∷ [])) ∷ []) ∷
    of ((codes "items", of ((codes "properties", of ((codes "a", of ((codes "required", n 5) ∷ [])) ∷ [])) ∷ [])) ∷ []) ∷
    [])
    ≡ None ∷ None ∷ None ∷ None ∷ Some (codes "/items") ∷ Some (codes "/items") ∷ Some (codes "/items") ∷ Some (codes "/items") ∷
    Some (codes "/items/type") ∷ Some (codes "/items/items/items") ∷ Some (codes "/items/properties/a/required") ∷ []
items-forms = refl

-- a list of any values, which may be empty
enum : map wrong (
    of ((codes "enum", items []) ∷ []) ∷
    of ((codes "enum", items (null ∷ of ((codes "type", n 5) ∷ []) ∷ items (n 5 ∷ []) ∷ [])) ∷ []) ∷
    of ((codes "enum", null) ∷ []) ∷
    of ((codes "enum", of []) ∷ []) ∷
    of ((codes "enum", word (codes "x")) ∷ []) ∷
    of ((codes "enum", n 5) ∷ []) ∷
    of ((codes "enum", boolean true) ∷ []) ∷
    [])
    ≡ None ∷ None ∷ Some (codes "/enum") ∷ Some (codes "/enum") ∷ Some (codes "/enum") ∷ Some (codes "/enum") ∷ Some (codes "/enum") ∷ []
enum = refl

-- any other member is ignored, whatever it holds; names are exact
others : map wrong (
    of ((codes "$schema", n 1) ∷ []) ∷
    of ((codes "Type", n 5) ∷ []) ∷
    of ((codes "types", n 5) ∷ []) ∷
    of ((codes "ENUM", n 5) ∷ []) ∷
    of ((codes "Required", n 5) ∷ []) ∷
    of ((codes "Items", n 5) ∷ []) ∷
    of ((codes "Properties", n 5) ∷ []) ∷
    of ((codes "additionalProperties", n 5) ∷ []) ∷
    of ((codes "$ref", word (codes "#/definitions/a")) ∷ []) ∷
    of ((codes "definitions", of ((codes "a", n 5) ∷ [])) ∷ []) ∷
    of ((codes "allOf", n 5) ∷ []) ∷
    of ((codes "not", null) ∷ []) ∷
    of ((codes "minimum", word (codes "x")) ∷ []) ∷
    of ((codes "format", n 5) ∷ []) ∷
    [])
    ≡ None ∷ None ∷ None ∷ None ∷ None ∷ None ∷ None ∷ None ∷ None ∷ None ∷ None ∷ None ∷ None ∷ None ∷ []
others = refl

-- of several the least
several : map wrong (
    of ((codes "enum", n 5) ∷ (codes "items", n 5) ∷ (codes "properties", n 5) ∷ (codes "required", n 5) ∷ (codes "type", n 5) ∷ []) ∷
    of ((codes "enum", items []) ∷ (codes "items", n 5) ∷ (codes "properties", n 5) ∷ (codes "required", n 5) ∷
    (codes "type", n 5) ∷ []) ∷
    of ((codes "properties", n 5) ∷ (codes "required", n 5) ∷ (codes "type", n 5) ∷ []) ∷
    of ((codes "required", n 5) ∷ (codes "type", n 5) ∷ []) ∷
    of ((codes "required", items (n 5 ∷ [])) ∷ (codes "type", items []) ∷ []) ∷
    of ((codes "items", of ((codes "type", n 5) ∷ [])) ∷ (codes "properties", of ((codes "a", n 5) ∷ [])) ∷ []) ∷
    [])
    ≡ Some (codes "/enum") ∷ Some (codes "/items") ∷ Some (codes "/properties") ∷ Some (codes "/required") ∷ Some (codes "/required/0") ∷
    Some (codes "/items/type") ∷ []
unfolding digits
several = refl

-- all places, in the order of the walk; what stands in a value of the wrong kind is none of them
all-places : flaws (of ((codes "enum", null) ∷
    (codes "items", of ((codes "enum", n 1) ∷ (codes "type", items (n 1 ∷ word (codes "null") ∷ n 1 ∷ [])) ∷ [])) ∷
    (codes "properties", items (n 5 ∷ [])) ∷
    (codes "required", of ((codes "a", n 5) ∷ [])) ∷
    (codes "type", of ((codes "type", n 5) ∷ [])) ∷ []))
    ≡ codes "/enum" ∷ codes "/items/enum" ∷ codes "/items/type/0" ∷ codes "/items/type/2" ∷ codes "/properties" ∷ codes "/required" ∷
    codes "/type" ∷ []
unfolding digits
all-places = refl

-- a schema is the value itself, with what is ignored
read-schema : schema_of (of ((codes "$schema", n 1) ∷ (codes "type", word (codes "null")) ∷ []))
    ≡ Ok (of ((codes "$schema", n 1) ∷ (codes "type", word (codes "null")) ∷ []))
read-schema = refl

read-none : schema_of (of ((codes "$schema", n 1) ∷ (codes "type", word (codes "Null")) ∷ [])) ≡ Err (Form (codes "/type"))
read-none = refl
