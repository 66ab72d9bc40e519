-- The definitions on values at worked values: depth, weight, bounds, order, members and items.
use Rattle.std.proofs.Common.{◌≡◌, ◌^◌, List, [], ◌∷◌, Some, None, Less, Equal, Greater, true, false, refl}
use Rattle.std.specs.Prelude.{pos, negsuc, codes, Ok, Err}
use Rattle.wf_val.specs.Get.{get, item, put, without, is_object}
use Rattle.wf_val.specs.Arguments.{within, bounded, in_range, wrong_type, number_at, text_at, truth_at, list_at, object_at, value_at, optional_number_at, optional_text_at, is_memory}
use Rattle.wf_val.specs.ValueOrder.{order}
use Rattle.wf_val.specs.ValueTree.{ValueTree, null, boolean, number, text, list, object, trees, members, Member, depth, weight, fits}
use Rattle.wf_val.specs.declared.fault.EvalFault.{EvalFault}
use Rattle.wf_val.specs.declared.function.Fun.{Fun}

abbrev list_of : List ValueTree → ValueTree
list_of ts = list (trees ts)

abbrev object_of : List Member → ValueTree
object_of ms = object (members ms)

abbrev seven : ValueTree
seven = number (pos 7)

-- {"ab":"xyz","c":[],"d":[[7]]}
abbrev sample : ValueTree
sample = object_of ((codes "ab", text (codes "xyz")) ∷ (codes "c", list_of []) ∷ (codes "d", list_of (list_of (seven ∷ []) ∷ [])) ∷ [])

-- depth: scalars are 0 deep; a list and an object count alike, empty or not
depth-scalars : (depth null ≡ 0) × (depth (boolean true) ≡ 0) × (depth seven ≡ 0) × (depth (text (codes "[[]]")) ≡ 0)
depth-scalars = (refl, refl, refl, refl)

depth-empty : (depth (list_of []) ≡ 1) × (depth (object_of []) ≡ 1)
depth-empty = (refl, refl)

depth-of_scalars : (depth (list_of (null ∷ seven ∷ [])) ≡ 1) × (depth (object_of ((codes "a", null) ∷ [])) ≡ 1)
depth-of_scalars = (refl, refl)

depth-list_in_object : depth (object_of ((codes "a", list_of []) ∷ [])) ≡ 2
depth-list_in_object = refl

depth-object_in_list : depth (list_of (seven ∷ object_of [] ∷ [])) ≡ 2
depth-object_in_list = refl

depth-deepest_is_first : depth (list_of (list_of (list_of [] ∷ []) ∷ list_of [] ∷ [])) ≡ 3
depth-deepest_is_first = refl

depth-sample : depth sample ≡ 3
depth-sample = refl

-- weight: 1 for each value and each member, and the bytes of texts and names
weight-scalars : (weight null ≡ 1) × (weight (boolean false) ≡ 1) × (weight (number (negsuc 999)) ≡ 1)
weight-scalars = (refl, refl, refl)

weight-texts : (weight (text []) ≡ 1) × (weight (text (codes "abc")) ≡ 4)
weight-texts = (refl, refl)

-- an e with an acute accent has two bytes
weight-counts_bytes : weight (text (195 ∷ 169 ∷ [])) ≡ 3
weight-counts_bytes = refl

weight-empty : (weight (list_of []) ≡ 1) × (weight (object_of []) ≡ 1)
weight-empty = (refl, refl)

weight-list : weight (list_of (null ∷ text (codes "ab") ∷ [])) ≡ 5
weight-list = refl

weight-object : weight (object_of ((codes "ab", seven) ∷ [])) ≡ 5
weight-object = refl

weight-of_an_empty_name : weight (object_of (([], null) ∷ [])) ≡ 3
weight-of_an_empty_name = refl

weight-sample : weight sample ≡ 16
weight-sample = refl

-- the bounds: 64 deep and 2^20 heavy, and no more
within-bounds : within 64 1048576 null ≡ Ok null
within-bounds = refl

deeper : within 65 1 null ≡ Err (EvalFault.TooBig 65 1)
deeper = refl

heavier : within 0 1048577 null ≡ Err (EvalFault.TooBig 0 1048577)
heavier = refl

fits-sample : fits sample ≡ true
fits-sample = refl

-- both numbers of a fault are the value's own, cut to their types
too_big-is_cut : within (2 ^ 32) (2 ^ 64) null ≡ Err (EvalFault.TooBig 4294967295 18446744073709551615)
too_big-is_cut = refl

-- a value's own depth and weight decide
bounded-is_within : (t : ValueTree) → bounded t ≡ within (depth t) (weight t) t
bounded-is_within t = refl

-- a whole number has 64 bits with a sign
in_range-edges :
    (in_range Fun.Add (pos 9223372036854775807) ≡ Ok (number (pos 9223372036854775807)))
    × (in_range Fun.Add (negsuc 9223372036854775807) ≡ Ok (number (negsuc 9223372036854775807)))
in_range-edges = (refl, refl)

past-range :
    (in_range Fun.Sub (pos 9223372036854775808) ≡ Err (EvalFault.Range Fun.Sub))
    × (in_range Fun.Mul (negsuc 9223372036854775808) ≡ Err (EvalFault.Range Fun.Mul))
past-range = (refl, refl)

-- the order: null, false, true, numbers by size, texts by bytes, lists, objects; each is below the next
null-below_false : order null (boolean false) ≡ Less
null-below_false = refl

false-below_true : order (boolean false) (boolean true) ≡ Less
false-below_true = refl

truth-below_numbers :
    (order (boolean true) (number (negsuc 9)) ≡ Less)
    × (order (boolean false) (number (pos 0)) ≡ Less)
    × (order (number (pos 1)) (boolean true) ≡ Greater)
truth-below_numbers = (refl, refl, refl)

numbers-by_size :
    (order (number (negsuc 9)) (number (negsuc 1)) ≡ Less)
    × (order (number (negsuc 0)) (number (pos 0)) ≡ Less)
    × (order (number (pos 9)) (number (pos 10)) ≡ Less)
numbers-by_size = (refl, refl, refl)

number-below_texts : order (number (pos 9)) (text []) ≡ Less
number-below_texts = refl

texts-by_bytes :
    (order (text []) (text (codes "1")) ≡ Less)
    × (order (text (codes "10")) (text (codes "9")) ≡ Less)
    × (order (text (codes "Z")) (text (codes "a")) ≡ Less)
texts-by_bytes = (refl, refl, refl)

-- the two bytes of an e with an acute accent are above each letter of ASCII
texts-past_ascii : order (text (codes "z")) (text (195 ∷ 169 ∷ [])) ≡ Less
texts-past_ascii = refl

text-below_lists : order (text (codes "z")) (list_of []) ≡ Less
text-below_lists = refl

lists-by_items :
    (order (list_of []) (list_of (null ∷ [])) ≡ Less)
    × (order (list_of (null ∷ [])) (list_of (null ∷ null ∷ [])) ≡ Less)
    × (order (list_of (null ∷ null ∷ [])) (list_of (seven ∷ [])) ≡ Less)
lists-by_items = (refl, refl, refl)

list-below_objects : order (list_of (sample ∷ [])) (object_of []) ≡ Less
list-below_objects = refl

objects-by_names_first : order (object_of ((codes "a", seven) ∷ [])) (object_of ((codes "b", null) ∷ [])) ≡ Less
objects-by_names_first = refl

objects-then_by_values : order (object_of ((codes "a", null) ∷ (codes "z", null) ∷ [])) (object_of ((codes "a", seven) ∷ [])) ≡ Less
objects-then_by_values = refl

object-front_is_below :
    (order (object_of []) (object_of ((codes "a", null) ∷ [])) ≡ Less)
    × (order (object_of ((codes "a", null) ∷ [])) (object_of ((codes "a", null) ∷ (codes "b", null) ∷ [])) ≡ Less)
object-front_is_below = (refl, refl)

equal-to_itself : order sample sample ≡ Equal
equal-to_itself = refl

-- members and items
get-member : get (codes "c") sample ≡ Some (list_of [])
get-member = refl

get-no_member : (get (codes "C") sample ≡ None) × (get (codes "c") (list_of []) ≡ None)
get-no_member = (refl, refl)

item-at_places :
    (item 0 (list_of (null ∷ seven ∷ [])) ≡ Some null)
    × (item 1 (list_of (null ∷ seven ∷ [])) ≡ Some seven)
    × (item 2 (list_of (null ∷ seven ∷ [])) ≡ None)
item-at_places = (refl, refl, refl)

item-of_no_list : (item 0 sample ≡ None) × (item 0 (text (codes "a")) ≡ None)
item-of_no_list = (refl, refl)

put-in_byte_order : put (codes "Z") seven (object_of ((codes "A", null) ∷ (codes "a", null) ∷ []))
    ≡ object_of ((codes "A", null) ∷ (codes "Z", seven) ∷ (codes "a", null) ∷ [])
put-in_byte_order = refl

put-replaces : put (codes "a") seven (object_of ((codes "A", null) ∷ (codes "a", null) ∷ []))
    ≡ object_of ((codes "A", null) ∷ (codes "a", seven) ∷ [])
put-replaces = refl

without-member : without (codes "A") (object_of ((codes "A", null) ∷ (codes "a", null) ∷ [])) ≡ object_of ((codes "a", null) ∷ [])
without-member = refl

without-absent : without (codes "b") sample ≡ sample
without-absent = refl

is_object-kinds : (is_object (object_of []) ≡ true) × (is_object (list_of []) ≡ false) × (is_object null ≡ false)
is_object-kinds = (refl, refl, refl)

-- arguments by type; a fault names the function, and counts places from 1
abbrev args : List ValueTree
args = seven ∷ text (codes "x") ∷ boolean true ∷ list_of (null ∷ []) ∷ object_of ((codes "a", null) ∷ []) ∷ []

of_their_types : (number_at Fun.Add args 0 ≡ Ok (pos 7)) × (text_at Fun.IsInt args 1 ≡ Ok (codes "x")) × (truth_at Fun.Not args 2 ≡ Ok true)
of_their_types = (refl, refl, refl)

of_their_types-whole :
    (list_at Fun.Join args 3 ≡ Ok (null ∷ []))
    × (object_at Fun.AddProperty args 4 ≡ Ok ((codes "a", null) ∷ []))
    × (value_at Fun.Array args 1 ≡ Ok (text (codes "x")))
of_their_types-whole = (refl, refl, refl)

of_other_types :
    (number_at Fun.Add args 1 ≡ Err (EvalFault.WrongType Fun.Add 2))
    × (text_at Fun.Trim args 0 ≡ Err (EvalFault.WrongType Fun.Trim 1))
    × (truth_at Fun.Not args 0 ≡ Err (EvalFault.WrongType Fun.Not 1))
of_other_types = (refl, refl, refl)

of_other_types-whole :
    (list_at Fun.Join args 4 ≡ Err (EvalFault.WrongType Fun.Join 5))
    × (object_at Fun.SetProperty args 3 ≡ Err (EvalFault.WrongType Fun.SetProperty 4))
of_other_types-whole = (refl, refl)

none-there :
    (number_at Fun.Add args 5 ≡ Err (EvalFault.WrongType Fun.Add 6))
    × (value_at Fun.Array [] 0 ≡ Err (EvalFault.WrongType Fun.Array 1))
none-there = (refl, refl)

left_out : (optional_number_at Fun.Substring args 5 ≡ Ok None) × (optional_text_at Fun.Sort args 5 ≡ Ok None)
left_out = (refl, refl)

not_left_out : (optional_number_at Fun.Substring args 0 ≡ Ok (Some (pos 7))) × (optional_text_at Fun.Sort args 1 ≡ Ok (Some (codes "x")))
not_left_out = (refl, refl)

not_left_out-of_other_types :
    (optional_number_at Fun.Slice args 1 ≡ Err (EvalFault.WrongType Fun.Slice 2))
    × (optional_text_at Fun.Sort args 0 ≡ Err (EvalFault.WrongType Fun.Sort 1))
not_left_out-of_other_types = (refl, refl)

last-place : wrong_type Fun.CreateArray 4294967294 ≡ EvalFault.WrongType Fun.CreateArray 4294967295
last-place = refl

past-last_place : wrong_type Fun.CreateArray 4294967295 ≡ EvalFault.WrongType Fun.CreateArray 4294967295
past-last_place = refl

memory : (is_memory EvalFault.Memory ≡ true) × (is_memory (EvalFault.Range Fun.Div) ≡ false)
memory = (refl, refl)
