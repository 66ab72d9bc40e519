-- Where worked values fail worked schemas: the least place of each, decided by hand.
use Rattle.std.proofs.Common.{◌≡◌, ℕ, List, [], ◌∷◌, map, Bool, true, false, Option, Some, None, is_none, pos, refl}
use Rattle.std.specs.Fmt.{digits}
use Rattle.std.specs.Prelude.{codes, negsuc}
use Rattle.wf_places.specs.Pointer.{least}
use Rattle.wf_schema.specs.Fails.{fails}
use Rattle.wf_val.specs.ValueTree.{ValueTree, null, boolean, number, text, list, object, trees, members, Member}

abbrev of : List Member → ValueTree
of ms = object (members ms)

abbrev items : List ValueTree → ValueTree
items ts = list (trees ts)

abbrev n : ℕ → ValueTree
n k = number (pos k)

abbrev word : List ℕ → ValueTree
word s = text s

abbrev typed : List ℕ → ValueTree
typed s = of ((codes "type", word s) ∷ [])

-- the least place at which a value fails a schema
abbrev worst : ValueTree → ValueTree → Option (List ℕ)
worst s v = least (fails s v)

abbrev passes : ValueTree → ValueTree → Bool
passes s v = is_none (worst s v)

-- ---- types

abbrev samples : List ValueTree
samples =
    null ∷ boolean true ∷ boolean false ∷ n 0 ∷ n 7 ∷ number (negsuc 0) ∷ word [] ∷ word (codes "null") ∷ items [] ∷ items (null ∷ []) ∷
    of [] ∷ of ((codes "type", null) ∷ []) ∷ []

type-null : map (passes (typed (codes "null"))) samples
    ≡ true ∷ false ∷ false ∷ false ∷ false ∷ false ∷ false ∷ false ∷ false ∷ false ∷ false ∷ false ∷ []
type-null = refl

type-boolean : map (passes (typed (codes "boolean"))) samples
    ≡ false ∷ true ∷ true ∷ false ∷ false ∷ false ∷ false ∷ false ∷ false ∷ false ∷ false ∷ false ∷ []
type-boolean = refl

type-integer : map (passes (typed (codes "integer"))) samples
    ≡ false ∷ false ∷ false ∷ true ∷ true ∷ true ∷ false ∷ false ∷ false ∷ false ∷ false ∷ false ∷ []
type-integer = refl

type-number : map (passes (typed (codes "number"))) samples
    ≡ false ∷ false ∷ false ∷ true ∷ true ∷ true ∷ false ∷ false ∷ false ∷ false ∷ false ∷ false ∷ []
type-number = refl

type-string : map (passes (typed (codes "string"))) samples
    ≡ false ∷ false ∷ false ∷ false ∷ false ∷ false ∷ true ∷ true ∷ false ∷ false ∷ false ∷ false ∷ []
type-string = refl

type-array : map (passes (typed (codes "array"))) samples
    ≡ false ∷ false ∷ false ∷ false ∷ false ∷ false ∷ false ∷ false ∷ true ∷ true ∷ false ∷ false ∷ []
type-array = refl

type-object : map (passes (typed (codes "object"))) samples
    ≡ false ∷ false ∷ false ∷ false ∷ false ∷ false ∷ false ∷ false ∷ false ∷ false ∷ true ∷ true ∷ []
type-object = refl

-- one of a list is enough
types-two : map (passes (of ((
  codes "type",
  items (word (codes "null") ∷ word (codes "array") ∷ []),
) ∷ []))) samples
    ≡ true ∷ false ∷ false ∷ false ∷ false ∷ false ∷ false ∷ false ∷ true ∷ true ∷ false ∷ false ∷ []
types-two = refl

types-twice : map (passes (of ((
  codes "type",
  items (word (codes "string") ∷ word (codes "string") ∷ []),
) ∷ []))) samples
    ≡ false ∷ false ∷ false ∷ false ∷ false ∷ false ∷ true ∷ true ∷ false ∷ false ∷ false ∷ false ∷ []
types-twice = refl

types-all : map (passes (of ((
  codes "type",
  items (word (codes "null") ∷ word (codes "boolean") ∷ word (codes "integer") ∷ word (codes "number") ∷ word (codes "string") ∷
      word (codes "array") ∷ word (codes "object") ∷ []),
) ∷ []))) samples
    ≡ true ∷ true ∷ true ∷ true ∷ true ∷ true ∷ true ∷ true ∷ true ∷ true ∷ true ∷ true ∷ []
types-all = refl

-- without a type any value passes
types-none : map (passes (of [])) samples
    ≡ true ∷ true ∷ true ∷ true ∷ true ∷ true ∷ true ∷ true ∷ true ∷ true ∷ true ∷ true ∷ []
types-none = refl

types-ignored : map (passes (of ((codes "Type", word (codes "null")) ∷ (codes "minimum", n 9) ∷ []))) samples
    ≡ true ∷ true ∷ true ∷ true ∷ true ∷ true ∷ true ∷ true ∷ true ∷ true ∷ true ∷ true ∷ []
types-ignored = refl

-- ---- members that are required

-- each has to be there, whatever its value; names are exact
abbrev required_two_schema : ValueTree
required_two_schema =
    of ((codes "required", items (word (codes "a") ∷ word (codes "b") ∷ [])) ∷ [])

required-two : map (worst required_two_schema) (
    of ((codes "a", n 1) ∷ (codes "b", n 2) ∷ []) ∷
    of ((codes "a", null) ∷ (codes "b", null) ∷ []) ∷
    of ((codes "a", n 1) ∷ (codes "b", n 2) ∷ (codes "c", n 3) ∷ []) ∷
    of ((codes "a", n 1) ∷ []) ∷
    of ((codes "b", n 1) ∷ []) ∷
    of [] ∷
    of ((codes "A", n 1) ∷ (codes "b", n 1) ∷ []) ∷
    of ((codes "a ", n 1) ∷ (codes "b", n 1) ∷ []) ∷
    [])
    ≡ None ∷ None ∷ None ∷ Some [] ∷ Some [] ∷ Some [] ∷ Some [] ∷ Some [] ∷ []
required-two = refl

-- of what is no object none is
abbrev required_object_schema : ValueTree
required_object_schema =
    of ((codes "required", items (word (codes "a") ∷ [])) ∷ [])

required-object : map (worst required_object_schema) (
    null ∷
    boolean true ∷
    n 5 ∷
    word (codes "a") ∷
    items [] ∷
    items (word (codes "a") ∷ []) ∷
    items (of [] ∷ []) ∷
    of [] ∷
    [])
    ≡ None ∷ None ∷ None ∷ None ∷ None ∷ None ∷ None ∷ Some [] ∷ []
required-object = refl

-- none
abbrev required_empty_schema : ValueTree
required_empty_schema =
    of ((codes "required", items []) ∷ [])

required-empty : map (worst required_empty_schema) (
    of [] ∷
    of ((codes "a", n 1) ∷ []) ∷
    n 5 ∷
    [])
    ≡ None ∷ None ∷ None ∷ []
required-empty = refl

-- the empty name is a name; one may stand twice
abbrev required_odd_schema : ValueTree
required_odd_schema =
    of ((codes "required", items (word [] ∷ word (codes "a") ∷ word (codes "a") ∷ [])) ∷ [])

required-odd : map (worst required_odd_schema) (
    of (([], n 1) ∷ (codes "a", n 2) ∷ []) ∷
    of ((codes "a", n 2) ∷ []) ∷
    of (([], n 2) ∷ []) ∷
    [])
    ≡ None ∷ Some [] ∷ Some [] ∷ []
required-odd = refl

-- what is required needs no schema, and what has a schema isn't required
abbrev required_alone_schema : ValueTree
required_alone_schema =
    of ((codes "properties", of ((codes "a", typed (codes "null")) ∷ [])) ∷ (codes "required", items (word (codes "b") ∷ [])) ∷ [])

required-alone : map (worst required_alone_schema) (
    of ((codes "b", n 1) ∷ []) ∷
    of ((codes "a", null) ∷ (codes "b", n 1) ∷ []) ∷
    of ((codes "a", null) ∷ []) ∷
    of ((codes "a", n 1) ∷ (codes "b", n 1) ∷ []) ∷
    of ((codes "a", n 1) ∷ []) ∷
    [])
    ≡ None ∷ None ∷ Some [] ∷ Some (codes "/a") ∷ Some [] ∷ []
required-alone = refl

-- ---- values that are listed

abbrev enum_mixed_schema : ValueTree
enum_mixed_schema =
    of ((
      codes "enum",
      items (n 1 ∷ word (codes "a") ∷ null ∷ boolean true ∷ items (n 1 ∷ n 2 ∷ []) ∷ of ((codes "x", n 1) ∷
          (codes "y", items []) ∷ []) ∷ []),
    ) ∷ [])

enum-mixed : map (worst enum_mixed_schema) (
    n 1 ∷
    word (codes "a") ∷
    null ∷
    boolean true ∷
    items (n 1 ∷ n 2 ∷ []) ∷
    of ((codes "x", n 1) ∷ (codes "y", items []) ∷ []) ∷
    n 2 ∷
    number (negsuc 0) ∷
    word (codes "1") ∷
    word (codes "A") ∷
    word [] ∷
    boolean false ∷
    items (n 2 ∷ n 1 ∷ []) ∷
    items (n 1 ∷ []) ∷
    items (n 1 ∷ n 2 ∷ n 3 ∷ []) ∷
    of ((codes "x", n 1) ∷ []) ∷
    of ((codes "x", n 1) ∷ (codes "y", null) ∷ []) ∷
    of ((codes "x", n 1) ∷ (codes "y", items []) ∷ (codes "z", n 1) ∷ []) ∷
    of [] ∷
    items [] ∷
    [])
    ≡ None ∷ None ∷ None ∷ None ∷ None ∷ None ∷ Some [] ∷ Some [] ∷ Some [] ∷ Some [] ∷ Some [] ∷ Some [] ∷ Some [] ∷ Some [] ∷ Some [] ∷
    Some [] ∷ Some [] ∷ Some [] ∷ Some [] ∷ Some [] ∷ []
enum-mixed = refl

-- none of none
abbrev enum_empty_schema : ValueTree
enum_empty_schema =
    of ((codes "enum", items []) ∷ [])

enum-empty : map (worst enum_empty_schema) (
    null ∷
    of [] ∷
    word [] ∷
    [])
    ≡ Some [] ∷ Some [] ∷ Some [] ∷ []
enum-empty = refl

-- all that is asked has to be so
abbrev all_three_schema : ValueTree
all_three_schema =
    of ((codes "enum", items (of ((codes "a", n 1) ∷ []) ∷ of ((codes "b", n 1) ∷ []) ∷ n 5 ∷ word (codes "x") ∷ [])) ∷
    (codes "required", items (word (codes "a") ∷ [])) ∷ (
      codes "type",
      items (word (codes "object") ∷ word (codes "integer") ∷
          []),
    ) ∷ [])

all-three : map (worst all_three_schema) (
    of ((codes "a", n 1) ∷ []) ∷
    n 5 ∷
    word (codes "x") ∷
    of ((codes "b", n 1) ∷ []) ∷
    of ((codes "a", n 2) ∷ []) ∷
    n 6 ∷
    [])
    ≡ None ∷ None ∷ Some [] ∷ Some [] ∷ Some [] ∷ Some [] ∷ []
all-three = refl

-- ---- members

-- what is in a member is told behind its name; what isn't there isn't asked
abbrev properties_two_schema : ValueTree
properties_two_schema =
    of ((
      codes "properties",
      of ((codes "a", typed (codes "integer")) ∷ (
        codes "b",
        of ((codes "properties", of ((codes "c", typed (codes "null")) ∷ [])) ∷ (codes "type", word (codes "object")) ∷
            []),
      ) ∷ []),
    ) ∷ [])

properties-two : map (worst properties_two_schema) (
    of [] ∷
    of ((codes "a", n 1) ∷ []) ∷
    of ((codes "a", null) ∷ []) ∷
    of ((codes "b", n 1) ∷ []) ∷
    of ((codes "b", of []) ∷ []) ∷
    of ((codes "b", of ((codes "c", null) ∷ [])) ∷ []) ∷
    of ((codes "b", of ((codes "c", n 1) ∷ [])) ∷ []) ∷
    of ((codes "a", word (codes "1")) ∷ (codes "b", of ((codes "c", n 1) ∷ [])) ∷ []) ∷
    of ((codes "a", n 1) ∷ (codes "b", items []) ∷ []) ∷
    of ((codes "c", n 1) ∷ (codes "d", items []) ∷ []) ∷
    [])
    ≡ None ∷ None ∷ Some (codes "/a") ∷ Some (codes "/b") ∷ None ∷ None ∷ Some (codes "/b/c") ∷ Some (codes "/a") ∷ Some (codes "/b") ∷
    None ∷ []
properties-two = refl

-- of what is no object nothing is
abbrev properties_object_schema : ValueTree
properties_object_schema =
    of ((codes "properties", of ((codes "a", of ((codes "enum", items []) ∷ [])) ∷ [])) ∷ [])

properties-object : map (worst properties_object_schema) (
    null ∷
    word (codes "a") ∷
    items (of ((codes "a", n 1) ∷ []) ∷ []) ∷
    n 5 ∷
    of ((codes "a", n 1) ∷ []) ∷
    of ((codes "b", n 1) ∷ []) ∷
    [])
    ≡ None ∷ None ∷ None ∷ None ∷ Some (codes "/a") ∷ None ∷ []
properties-object = refl

-- a slash and a tilde in a name
abbrev properties_escaped_schema : ValueTree
properties_escaped_schema =
    of ((
      codes "properties",
      of (([], typed (codes "null")) ∷ (codes "a/b", typed (codes "null")) ∷
          (codes "a~b", typed (codes "null")) ∷ (codes "~1", typed (codes "null")) ∷ []),
    ) ∷ [])

properties-escaped : map (worst properties_escaped_schema) (
    of ((codes "a/b", n 1) ∷ []) ∷
    of ((codes "a~b", n 1) ∷ []) ∷
    of ((codes "~1", n 1) ∷ []) ∷
    of (([], n 1) ∷ []) ∷
    of (([], n 1) ∷ (codes "a/b", n 1) ∷ []) ∷
    of ((codes "a/b", n 1) ∷ (codes "a~b", n 1) ∷ []) ∷
    of (([], null) ∷ (codes "a/b", null) ∷ (codes "a~b", null) ∷ (codes "~1", null) ∷ []) ∷
    [])
    ≡ Some (codes "/a~1b") ∷ Some (codes "/a~0b") ∷ Some (codes "/~01") ∷ Some (codes "/") ∷ Some (codes "/") ∷ Some (codes "/a~0b") ∷
    None ∷ []
properties-escaped = refl

-- the least by the bytes of the pointers, which isn't that by the names
abbrev properties_least_schema : ValueTree
properties_least_schema =
    of ((
      codes "properties",
      of ((
        codes "a",
        of ((codes "properties", of ((codes "x", of ((codes "enum", items []) ∷ [])) ∷ [])) ∷
            []),
      ) ∷ (codes "a-b", of ((codes "enum", items []) ∷ [])) ∷ (codes "a/", of ((codes "enum", items []) ∷ [])) ∷
          (codes "a0", of ((codes "enum", items []) ∷ [])) ∷ []),
    ) ∷ [])

properties-least : map (worst properties_least_schema) (
    of ((codes "a/", n 1) ∷ (codes "a0", n 1) ∷ []) ∷
    of ((codes "a", of ((codes "x", n 1) ∷ [])) ∷ (codes "a-b", n 1) ∷ []) ∷
    of ((codes "a", of ((codes "x", n 1) ∷ [])) ∷ (codes "a0", n 1) ∷ []) ∷
    of ((codes "a-b", n 1) ∷ (codes "a0", n 1) ∷ []) ∷
    [])
    ≡ Some (codes "/a0") ∷ Some (codes "/a-b") ∷ Some (codes "/a/x") ∷ Some (codes "/a-b") ∷ []
properties-least = refl

-- the value itself comes before all that is in it
abbrev properties_whole_schema : ValueTree
properties_whole_schema =
    of ((codes "properties", of ((codes "a", of ((codes "enum", items []) ∷ [])) ∷ [])) ∷
    (codes "required", items (word (codes "b") ∷ [])) ∷ [])

properties-whole : map (worst properties_whole_schema) (
    of ((codes "a", n 1) ∷ []) ∷
    of ((codes "a", n 1) ∷ (codes "b", n 1) ∷ []) ∷
    of ((codes "b", n 1) ∷ []) ∷
    [])
    ≡ Some [] ∷ Some (codes "/a") ∷ None ∷ []
properties-whole = refl

-- ---- items

-- each by one schema
abbrev items_each_schema : ValueTree
items_each_schema =
    of ((codes "items", typed (codes "string")) ∷ [])

items-each : map (worst items_each_schema) (
    items [] ∷
    items (word (codes "a") ∷ word (codes "b") ∷ []) ∷
    items (n 1 ∷ []) ∷
    items (word (codes "a") ∷ n 1 ∷ n 2 ∷ []) ∷
    items (items (word (codes "a") ∷ []) ∷ []) ∷
    items (word (codes "a") ∷ word (codes "a") ∷ n 1 ∷ word (codes "a") ∷ word (codes "a") ∷ word (codes "a") ∷ word (codes "a") ∷
    word (codes "a") ∷ word (codes "a") ∷ word (codes "a") ∷ n 1 ∷ []) ∷
    of ((codes "0", n 1) ∷ []) ∷
    word (codes "a") ∷
    null ∷
    [])
    ≡ None ∷ None ∷ Some (codes "/0") ∷ Some (codes "/1") ∷ Some (codes "/0") ∷ Some (codes "/10") ∷ None ∷ None ∷ None ∷ []
unfolding digits
items-each = refl

abbrev items_nested_schema : ValueTree
items_nested_schema =
    of ((
      codes "items",
      of ((codes "items", of ((codes "enum", items (n 1 ∷ [])) ∷ [])) ∷ (codes "type", word (codes "array")) ∷
          []),
    ) ∷ (codes "type", word (codes "array")) ∷ [])

items-nested : map (worst items_nested_schema) (
    items [] ∷
    items (items (n 1 ∷ n 1 ∷ []) ∷ items [] ∷ []) ∷
    items (items (n 1 ∷ n 2 ∷ []) ∷ []) ∷
    items (items (n 1 ∷ []) ∷ n 1 ∷ []) ∷
    items (items (n 1 ∷ []) ∷ items (n 2 ∷ []) ∷ []) ∷
    n 5 ∷
    of [] ∷
    [])
    ≡ None ∷ None ∷ Some (codes "/0/1") ∷ Some (codes "/1") ∷ Some (codes "/1/0") ∷ Some [] ∷ Some [] ∷ []
unfolding digits
items-nested = refl

-- a list asks nothing
abbrev items_list_schema : ValueTree
items_list_schema =
    of ((codes "items", items (typed (codes "string") ∷ [])) ∷ [])

items-list : map (worst items_list_schema) (
    items (n 1 ∷ []) ∷
    items [] ∷
    items (null ∷ word (codes "a") ∷ []) ∷
    n 1 ∷
    [])
    ≡ None ∷ None ∷ None ∷ None ∷ []
items-list = refl

-- with members in them
abbrev items_objects_schema : ValueTree
items_objects_schema =
    of ((
      codes "items",
      of ((codes "properties", of ((codes "a", of ((codes "items", typed (codes "null")) ∷ [])) ∷ [])) ∷
          (codes "required", items (word (codes "a") ∷ [])) ∷ []),
    ) ∷ [])

items-objects : map (worst items_objects_schema) (
    items (of ((codes "a", items []) ∷ []) ∷ []) ∷
    items (of ((codes "a", items (null ∷ [])) ∷ []) ∷ of [] ∷ []) ∷
    items (of ((codes "a", items (null ∷ n 1 ∷ [])) ∷ []) ∷ of [] ∷ []) ∷
    items (n 5 ∷ []) ∷
    [])
    ≡ None ∷ Some (codes "/1") ∷ Some (codes "/0/a/1") ∷ None ∷ []
unfolding digits
items-objects = refl

-- ---- an object with a number `id`, which has to be there, and a list `tags` of texts

abbrev tagged_schema : ValueTree
tagged_schema =
    of ((
      codes "properties",
      of ((codes "id", typed (codes "integer")) ∷
          (codes "tags", of ((codes "items", typed (codes "string")) ∷ (codes "type", word (codes "array")) ∷ [])) ∷ []),
    ) ∷
    (codes "required", items (word (codes "id") ∷ [])) ∷ (codes "type", word (codes "object")) ∷ [])

tagged : map (worst tagged_schema) (
    of ((codes "id", word (codes "x")) ∷ (codes "tags", items (word (codes "a") ∷ n 1 ∷ [])) ∷ []) ∷
    of ((codes "id", n 7) ∷ (codes "tags", items (word (codes "a") ∷ n 1 ∷ [])) ∷ []) ∷
    of ((codes "tags", items []) ∷ []) ∷
    of ((codes "id", n 7) ∷ (codes "tags", items (word (codes "a") ∷ [])) ∷ []) ∷
    of ((codes "id", n 7) ∷ []) ∷
    of ((codes "id", n 7) ∷ (codes "tags", null) ∷ []) ∷
    null ∷
    items (of ((codes "id", n 7) ∷ []) ∷ []) ∷
    of ((codes "id", n 7) ∷ (codes "x", null) ∷ []) ∷
    [])
    ≡ Some (codes "/id") ∷ Some (codes "/tags/1") ∷ Some [] ∷ None ∷ None ∷ Some (codes "/tags") ∷ Some [] ∷ Some [] ∷ None ∷ []
unfolding digits
tagged = refl

-- all places, in the order of the walk, the value's own once
all-places : fails (of ((codes "enum", items []) ∷
    (codes "items", of ((codes "enum", items []) ∷ [])) ∷
    (codes "type", word (codes "null")) ∷ []))
    (items (n 1 ∷ n 2 ∷ []))
    ≡ [] ∷ codes "/0" ∷ codes "/1" ∷ []
unfolding digits
all-places = refl
