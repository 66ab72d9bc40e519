-- Rows at worked values: what the definitions say where a reader can work it out from the standards alone.
use Rattle.std.proofs.Common.{◌≡◌, ℕ, zero, suc, ◌-◌, ◌^◌, List, [], ◌∷◌, ◌++◌, Some, None, Ok, Err, true, false, pos, negsuc, refl}
use Rattle.std.specs.Fmt.{digits}
use Rattle.std.specs.Prelude.{codes, ⊤}
use Rattle.std.specs.Str.{chars, is_utf8}
use Rattle.serde_json.specs.Data as json
use Rattle.serde_json.proofs.OnLiterals.{serde_json_on_literals}
use Rattle.wf_val.specs.ValueTree as value
use Rattle.wf_val.specs.declared.fault.EvalFault.{EvalFault}
use Rattle.wf_val.specs.declared.function.Fun.{Fun}
use Rattle.wf_json.specs.FaultText.{fault_text}
use Rattle.wf_json.specs.Json as text
use Rattle.wf_json.specs.Json.{string}
use Rattle.wf_json.specs.Pointer.{item_step, member_step, here, flagged, lesser, least}
use Rattle.wf_json.specs.Read.{whole, value_unless, flawed_places, least_flaw, read_value}
use Rattle.wf_json.specs.Sent.{data_of, items_of}
use Rattle.wf_json.specs.declared.fault.Flaw.{Flaw}
use Rattle.wf_json.specs.declared.fault.JsonFault.{JsonFault}

-- what a row unfolds to be computed
unfoldable on_literals : ⊤
unfolding serde_json_on_literals chars is_utf8 digits
on_literals = tt

-- ---- steps of pointers (RFC 6901, sections 3 to 5)

item-first : item_step 0 ≡ codes "/0"
unfolding on_literals
item-first = refl

item-tenth : item_step 10 ≡ codes "/10"
unfolding on_literals
item-tenth = refl

member-plain : member_step (codes "a b") ≡ codes "/a b"
member-plain = refl

member-no_name : member_step [] ≡ codes "/"
member-no_name = refl

member-slash : member_step (codes "a/b") ≡ codes "/a~1b"
member-slash = refl

member-tilde : member_step (codes "m~n") ≡ codes "/m~0n"
member-tilde = refl

member-tilde_and_digit : member_step (codes "~1") ≡ codes "/~01"
member-tilde_and_digit = refl

member-quotation_mark : member_step (codes "k\"l") ≡ codes "/k\"l"
member-quotation_mark = refl

member-backslash : member_step (codes "i\\j") ≡ codes "/i\\j"
member-backslash = refl

member-beyond_ascii : member_step (195 ∷ 169 ∷ []) ≡ 47 ∷ 195 ∷ 169 ∷ []
member-beyond_ascii = refl

here-flawed : here true ≡ [] ∷ []
here-flawed = refl

here-sound : here false ≡ []
here-sound = refl

flagged-flawed : flagged true (codes "~/") ≡ codes "/~0~1" ∷ []
flagged-flawed = refl

flagged-sound : flagged false (codes "a") ≡ []
flagged-sound = refl

-- ---- the least of pointers, by bytes and not step by step

lesser-none : lesser None None ≡ None
lesser-none = refl

lesser-left : lesser (Some (codes "/a")) None ≡ Some (codes "/a")
lesser-left = refl

lesser-right : lesser None (Some (codes "/a")) ≡ Some (codes "/a")
lesser-right = refl

lesser-front : lesser (Some (codes "/a/0")) (Some (codes "/a")) ≡ Some (codes "/a")
lesser-front = refl

lesser-digits : lesser (Some (codes "/2")) (Some (codes "/10")) ≡ Some (codes "/10")
lesser-digits = refl

lesser-below_slash : lesser (Some (codes "/a/x")) (Some (codes "/a!")) ≡ Some (codes "/a!")
lesser-below_slash = refl

lesser-cases : lesser (Some (codes "/a")) (Some (codes "/B")) ≡ Some (codes "/B")
lesser-cases = refl

lesser-beyond_ascii : lesser (Some (47 ∷ 195 ∷ [])) (Some (codes "/z")) ≡ Some (codes "/z")
lesser-beyond_ascii = refl

least-of_three : least (codes "/2" ∷ codes "/10" ∷ codes "/1/0" ∷ []) ≡ Some (codes "/1/0")
least-of_three = refl

least-root : least (codes "/" ∷ [] ∷ codes "/0" ∷ []) ≡ Some []
least-root = refl

-- ---- what stands for a byte in a string (RFC 8259, section 7)

string-short_escapes : string (34 ∷ 92 ∷ 8 ∷ 12 ∷ 10 ∷ 13 ∷ 9 ∷ []) ≡ codes "\"\\\"\\\\\\b\\f\\n\\r\\t\""
string-short_escapes = refl

string-controls : string (0 ∷ 11 ∷ 27 ∷ 31 ∷ []) ≡ codes "\"\\u0000\\u000b\\u001b\\u001f\""
string-controls = refl

string-themselves : string (32 ∷ 33 ∷ 35 ∷ 47 ∷ 91 ∷ 93 ∷ 127 ∷ 195 ∷ 169 ∷ [])
    ≡ 34 ∷ 32 ∷ 33 ∷ 35 ∷ 47 ∷ 91 ∷ 93 ∷ 127 ∷ 195 ∷ 169 ∷ 34 ∷ []
string-themselves = refl

string-empty : string [] ≡ codes "\"\""
string-empty = refl

-- ---- texts of values

-- the list of two values, and the object of two members
abbrev two : value.ValueTree → value.ValueTree → value.ValueTree
two a b = value.list (value.value_then a (value.value_then b value.no_values))

abbrev members : List ℕ → value.ValueTree → List ℕ → value.ValueTree → value.ValueTree
members k a l b = value.object (value.member_then k a (value.member_then l b value.no_members))

json-scalars : text.json (two value.null (two (value.boolean true) (value.boolean false))) ≡ codes "[null,[true,false]]"
json-scalars = refl

json-empty : text.json (two (value.list value.no_values) (value.object value.no_members)) ≡ codes "[[],{}]"
json-empty = refl

json-members : text.json (members (codes "B") (value.text (codes "x")) (codes "a\"") value.null) ≡ codes "{\"B\":\"x\",\"a\\\"\":null}"
json-members = refl

json-numbers : text.json (two (value.number (pos 0)) (two (value.number (pos (2 ^ 63 - 1))) (value.number (negsuc (2 ^ 63 - 1)))))
    ≡ codes "[0,[9223372036854775807,-9223372036854775808]]"
unfolding on_literals
json-numbers = refl

text-itself : text.text (value.text (codes "a\"b")) ≡ codes "a\"b"
text-itself = refl

text-null : text.text value.null ≡ []
text-null = refl

text-false : text.text (value.boolean false) ≡ codes "false"
text-false = refl

text-list : text.text (two value.null (value.text (codes "a"))) ≡ codes "[null,\"a\"]"
text-list = refl

-- ---- numbers that are whole

whole-greatest : whole (json.unsigned (2 ^ 63 - 1)) ≡ Some (pos (2 ^ 63 - 1))
whole-greatest = refl

whole-past : whole (json.unsigned (2 ^ 63)) ≡ None
whole-past = refl

whole-unsigned : whole (json.unsigned (2 ^ 64 - 1)) ≡ None
whole-unsigned = refl

whole-least : whole (json.negative (negsuc (2 ^ 63 - 1))) ≡ Some (negsuc (2 ^ 63 - 1))
whole-least = refl

-- ---- how deep lists and objects nest

abbrev in_lists : ℕ → json.Data → json.Data
in_lists zero d = d
in_lists (suc n) d = json.array (json.item (in_lists n d) json.no_items)

abbrev in_objects : ℕ → json.Data → json.Data
in_objects zero d = d
in_objects (suc n) d = json.object (json.member (codes "k") (in_objects n d) json.no_members)

abbrev times : ℕ → List ℕ → List ℕ
times zero s = []
times (suc n) s = s ++ times n s

depth-greatest : least_flaw Flaw.TooDeep (in_lists 120 json.null) ≡ None
depth-greatest = refl

depth-past : least_flaw Flaw.TooDeep (in_lists 120 (json.array json.no_items)) ≡ Some (times 120 (codes "/0"))
unfolding on_literals
depth-past = refl

depth-objects : least_flaw Flaw.TooDeep (in_objects 120 (json.number (json.unsigned 1))) ≡ None
depth-objects = refl

depth-past_objects : least_flaw Flaw.TooDeep (in_objects 120 (json.object json.no_members)) ≡ Some (times 120 (codes "/k"))
depth-past_objects = refl

depth-mixed : flawed_places Flaw.TooDeep 1 (in_objects 1 (in_lists 1 json.null)) ≡ codes "/k" ∷ []
depth-mixed = refl

-- ---- the fault that is named

fault-whole_first : value_unless (Some (codes "/b")) (Some (codes "/a")) value.null ≡ Err (JsonFault.NotWhole (codes "/b"))
fault-whole_first = refl

fault-deep : value_unless None (Some (codes "/a")) value.null ≡ Err (JsonFault.TooDeep (codes "/a"))
fault-deep = refl

fault-none : value_unless None None value.null ≡ Ok value.null
fault-none = refl

-- ---- what bytes mean

read-nothing : read_value [] ≡ Err JsonFault.NotJson
unfolding on_literals
read-nothing = refl

read-blanks : read_value (codes " \t\r\n[ true , null ]\n") ≡ Ok (two (value.boolean true) value.null)
unfolding on_literals
read-blanks = refl

read-mark : read_value (239 ∷ 187 ∷ 191 ∷ codes "{}") ≡ Ok (value.object value.no_members)
unfolding on_literals
read-mark = refl

read-two_marks : read_value (239 ∷ 187 ∷ 191 ∷ 239 ∷ 187 ∷ 191 ∷ codes "{}") ≡ Err JsonFault.NotJson
unfolding on_literals
read-two_marks = refl

read-not_utf8 : read_value (34 ∷ 255 ∷ 34 ∷ []) ≡ Err JsonFault.NotJson
unfolding on_literals
read-not_utf8 = refl

read-tab_in_string : read_value (34 ∷ 9 ∷ 34 ∷ []) ≡ Err JsonFault.NotJson
unfolding on_literals
read-tab_in_string = refl

read-last_of_equal_names : read_value (codes "{\"b\":true,\"a\":null,\"b\":false}")
    ≡ Ok (members (codes "a") value.null (codes "b") (value.boolean false))
unfolding on_literals
read-last_of_equal_names = refl

read-greatest : read_value (codes "9223372036854775807") ≡ Ok (value.number (pos (2 ^ 63 - 1)))
unfolding on_literals
read-greatest = refl

read-past : read_value (codes "9223372036854775808") ≡ Err (JsonFault.NotWhole [])
unfolding on_literals
read-past = refl

read-least : read_value (codes "-9223372036854775808") ≡ Ok (value.number (negsuc (2 ^ 63 - 1)))
unfolding on_literals
read-least = refl

read-past_least : read_value (codes "-9223372036854775809") ≡ Err (JsonFault.NotWhole [])
unfolding on_literals
read-past_least = refl

read-minus_zero : read_value (codes "[-0]") ≡ Err (JsonFault.NotWhole (codes "/0"))
unfolding on_literals
read-minus_zero = refl

read-fraction : read_value (codes "{\"outputs\":{\"body\":1.5}}") ≡ Err (JsonFault.NotWhole (codes "/outputs/body"))
unfolding on_literals
read-fraction = refl

read-exponent : read_value (codes "1e2") ≡ Err (JsonFault.NotWhole [])
unfolding on_literals
read-exponent = refl

read-past_floats : read_value (codes "1e999") ≡ Err JsonFault.NotJson
unfolding on_literals
read-past_floats = refl

read-replaced_flaw : read_value (codes "{\"a\":[1.5],\"b\":null,\"a\":true}")
    ≡ Ok (members (codes "a") (value.boolean true) (codes "b") value.null)
unfolding on_literals
read-replaced_flaw = refl

read-flaw_that_replaces : read_value (codes "{\"a\":true,\"b\":1.5,\"a\":-0}") ≡ Err (JsonFault.NotWhole (codes "/a"))
unfolding on_literals
read-flaw_that_replaces = refl

read-replaced_not_json : read_value (codes "{\"a\":1e999,\"a\":1}") ≡ Err JsonFault.NotJson
unfolding on_literals
read-replaced_not_json = refl

read-least_of_names : read_value (codes "{\"b\":1.5,\"a/b\":1.5,\"a~\":1.5,\"a!\":[1,1.5]}") ≡ Err (JsonFault.NotWhole (codes "/a!/1"))
unfolding on_literals
read-least_of_names = refl

read-escaped_names : read_value (codes "{\"a~\":1.5,\"a/\":1.5}") ≡ Err (JsonFault.NotWhole (codes "/a~0"))
unfolding on_literals
read-escaped_names = refl

read-least_of_items : read_value (codes "[0,1,1.5,3,4,5,6,7,8,9,{\"a\":1.5}]") ≡ Err (JsonFault.NotWhole (codes "/10/a"))
unfolding on_literals
read-least_of_items = refl

-- a number that isn't whole is named where it stands, also inside what is too deep
too_deep_and_not_whole : least_flaw Flaw.NotWhole (in_lists 121 (json.number (json.unsigned (2 ^ 63)))) ≡ Some (times 121 (codes "/0"))
unfolding on_literals
too_deep_and_not_whole = refl

-- ---- the tree of a value

data_of-scalars : items_of (value.trees (value.null ∷ value.boolean true ∷ value.number (pos 0) ∷ value.text (codes "a") ∷ []))
    ≡ json.item json.null
    (json.item (json.boolean true) (json.item (json.number (json.unsigned 0)) (json.item (json.string (codes "a")) json.no_items)))
data_of-scalars = refl

data_of-greatest : data_of (value.number (pos (2 ^ 63 - 1))) ≡ json.number (json.unsigned 9223372036854775807)
data_of-greatest = refl

data_of-below_zero : data_of (value.number (negsuc 0)) ≡ json.number (json.negative (negsuc 0))
data_of-below_zero = refl

data_of-list_in_object : data_of (value.object (value.members ((codes "k", value.list value.no_values) ∷ [])))
    ≡ json.object (json.member (codes "k") (json.array json.no_items) json.no_members)
data_of-list_in_object = refl

-- ---- faults as they are printed

fault_text-WrongType : fault_text (EvalFault.WrongType Fun.Add 2) ≡ codes "WrongType add 2"
unfolding on_literals
fault_text-WrongType = refl

fault_text-Range : fault_text (EvalFault.Range Fun.Div) ≡ codes "Range div"
fault_text-Range = refl

fault_text-NoMember : fault_text (EvalFault.NoMember (codes "a\"b")) ≡ codes "NoMember \"a\\\"b\""
fault_text-NoMember = refl

fault_text-BadText : fault_text (EvalFault.BadText Fun.Int) ≡ codes "BadText int"
fault_text-BadText = refl

fault_text-TooBig : fault_text (EvalFault.TooBig 65 1048577) ≡ codes "TooBig 65 1048577"
unfolding on_literals
fault_text-TooBig = refl

fault_text-NoValue : fault_text (EvalFault.NoValue (codes "A")) ≡ codes "NoValue \"A\""
fault_text-NoValue = refl
