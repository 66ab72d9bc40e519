-- Rows at worked values: each example, each fault with its function and place, and the edges.
use Rattle.std.proofs.Common.{◌≡◌, ℕ, zero, suc, ◌-◌, ◌^◌, refl, List, [], ◌∷◌, Ok, Err, true, false}
use Rattle.std.specs.Prelude.{pos, negsuc, codes}
use Rattle.std.specs.Str.{chars}
use lib.Utf8.{encode}
use Rattle.wf_val.proofs.RowValues.{plus, minus, greatest, least, fields}
use Rattle.wf_val.specs.ValueTree.{ValueTree, null, boolean, number, text, object, members, Member}
use Rattle.wf_val.specs.declared.fault.EvalFault.{EvalFault}
use Rattle.wf_val.specs.declared.function.Fun.{Fun}
use Rattle.wf_fn_list.specs.Chunks.{chunk_row}
use Rattle.wf_fn_list.specs.Making.{create_array_row, array_row}
use Rattle.wf_fn_list.specs.Members.{add_property_row, set_property_row, remove_property_row}
use Rattle.wf_fn_list.specs.Membership.{contains_row, empty_row}
use Rattle.wf_fn_list.specs.Parts.{length_row, first_row, last_row, take_row, skip_row, join_row, reverse_row, listed}
use Rattle.wf_fn_list.specs.Ranges.{range_row}

-- lists in one another
abbrev nested : ℕ → ValueTree
nested zero = null
nested (suc zero) = listed []
nested (suc (suc n)) = listed (nested (suc n) ∷ [])

-- length
length-text : length_row (text (codes "abc") ∷ []) ≡ Ok (plus 3)
unfolding chars encode
length-text = refl

length-characters : length_row (text (195 ∷ 169 ∷ 240 ∷ 159 ∷ 152 ∷ 128 ∷ []) ∷ []) ≡ Ok (plus 2)
unfolding chars encode
length-characters = refl

length-empty_text : length_row (text [] ∷ []) ≡ Ok (plus 0)
unfolding chars encode
length-empty_text = refl

length-items : length_row (listed (plus 1 ∷ null ∷ []) ∷ []) ≡ Ok (plus 2)
unfolding chars encode
length-items = refl

length-empty_list : length_row (listed [] ∷ []) ≡ Ok (plus 0)
unfolding chars encode
length-empty_list = refl

length-null : length_row (null ∷ []) ≡ Err (EvalFault.WrongType Fun.Length 1)
unfolding chars encode
length-null = refl

length-object : length_row (fields ((codes "a", plus 1) ∷ []) ∷ []) ≡ Err (EvalFault.WrongType Fun.Length 1)
unfolding chars encode
length-object = refl

length-number : length_row (plus 5 ∷ []) ≡ Err (EvalFault.WrongType Fun.Length 1)
unfolding chars encode
length-number = refl

-- empty
empty-text : empty_row (text (codes "a") ∷ []) ≡ Ok (boolean false)
empty-text = refl

empty-empty_text : empty_row (text [] ∷ []) ≡ Ok (boolean true)
empty-empty_text = refl

empty-list : empty_row (listed (null ∷ []) ∷ []) ≡ Ok (boolean false)
empty-list = refl

empty-empty_list : empty_row (listed [] ∷ []) ≡ Ok (boolean true)
empty-empty_list = refl

empty-object : empty_row (fields ((codes "a", plus 1) ∷ []) ∷ []) ≡ Ok (boolean false)
empty-object = refl

empty-empty_object : empty_row (fields [] ∷ []) ≡ Ok (boolean true)
empty-empty_object = refl

empty-null : empty_row (null ∷ []) ≡ Ok (boolean true)
empty-null = refl

empty-zero : empty_row (plus 0 ∷ []) ≡ Err (EvalFault.WrongType Fun.Empty 1)
empty-zero = refl

empty-false : empty_row (boolean false ∷ []) ≡ Err (EvalFault.WrongType Fun.Empty 1)
empty-false = refl

-- contains
contains-part : contains_row (text (codes "hello") ∷ text (codes "ell") ∷ []) ≡ Ok (boolean true)
contains-part = refl

contains-end : contains_row (text (codes "hello") ∷ text (codes "lo") ∷ []) ≡ Ok (boolean true)
contains-end = refl

contains-case : contains_row (text (codes "Hello") ∷ text (codes "h") ∷ []) ≡ Ok (boolean false)
contains-case = refl

contains-broken_up : contains_row (text (codes "hlelo") ∷ text (codes "hll") ∷ []) ≡ Ok (boolean false)
contains-broken_up = refl

contains-nothing : contains_row (text (codes "abc") ∷ text [] ∷ []) ≡ Ok (boolean true)
contains-nothing = refl

contains-in_nothing : contains_row (text [] ∷ text (codes "a") ∷ []) ≡ Ok (boolean false)
contains-in_nothing = refl

contains-nothing_in_nothing : contains_row (text [] ∷ text [] ∷ []) ≡ Ok (boolean true)
contains-nothing_in_nothing = refl

contains-text_in_text : contains_row (text (codes "abc") ∷ plus 1 ∷ []) ≡ Err (EvalFault.WrongType Fun.Contains 2)
contains-text_in_text = refl

contains-item : contains_row (listed (plus 1 ∷ plus 2 ∷ []) ∷ plus 2 ∷ []) ≡ Ok (boolean true)
contains-item = refl

contains-number_for_true : contains_row (listed (plus 1 ∷ []) ∷ boolean true ∷ []) ≡ Ok (boolean false)
contains-number_for_true = refl

contains-list_in_list : contains_row (listed (listed (plus 1 ∷ []) ∷ []) ∷ listed (plus 1 ∷ []) ∷ []) ≡ Ok (boolean true)
contains-list_in_list = refl

contains-front_of_item : contains_row (listed (text (codes "ab") ∷ []) ∷ text (codes "a") ∷ []) ≡ Ok (boolean false)
contains-front_of_item = refl

contains-none : contains_row (listed [] ∷ null ∷ []) ≡ Ok (boolean false)
contains-none = refl

contains-null : contains_row (listed (null ∷ []) ∷ null ∷ []) ≡ Ok (boolean true)
contains-null = refl

contains-name : contains_row (fields ((codes "a", plus 1) ∷ []) ∷ text (codes "a") ∷ []) ≡ Ok (boolean true)
contains-name = refl

contains-name_case : contains_row (fields ((codes "a", plus 1) ∷ []) ∷ text (codes "A") ∷ []) ≡ Ok (boolean false)
contains-name_case = refl

contains-name_no_text : contains_row (fields ((codes "1", plus 1) ∷ []) ∷ plus 1 ∷ [])
    ≡ Err (EvalFault.WrongType Fun.Contains 2)
contains-name_no_text = refl

contains-of_null : contains_row (null ∷ plus 1 ∷ []) ≡ Err (EvalFault.WrongType Fun.Contains 1)
contains-of_null = refl

contains-of_number : contains_row (plus 1 ∷ plus 1 ∷ []) ≡ Err (EvalFault.WrongType Fun.Contains 1)
contains-of_number = refl

-- first
first-text : first_row (text (codes "abc") ∷ []) ≡ Ok (text (codes "a"))
unfolding chars encode
first-text = refl

first-character : first_row (text (195 ∷ 169 ∷ 49 ∷ []) ∷ []) ≡ Ok (text (195 ∷ 169 ∷ []))
unfolding chars encode
first-character = refl

first-empty_text : first_row (text [] ∷ []) ≡ Ok (text [])
unfolding chars encode
first-empty_text = refl

first-list : first_row (listed (listed (plus 1 ∷ []) ∷ plus 2 ∷ []) ∷ []) ≡ Ok (listed (plus 1 ∷ []))
unfolding chars encode
first-list = refl

first-empty_list : first_row (listed [] ∷ []) ≡ Ok null
unfolding chars encode
first-empty_list = refl

first-object : first_row (fields [] ∷ []) ≡ Err (EvalFault.WrongType Fun.First 1)
unfolding chars encode
first-object = refl

-- last
last-text : last_row (text (codes "abc") ∷ []) ≡ Ok (text (codes "c"))
unfolding chars encode
last-text = refl

last-character : last_row (text (49 ∷ 240 ∷ 159 ∷ 152 ∷ 128 ∷ []) ∷ []) ≡ Ok (text (240 ∷ 159 ∷ 152 ∷ 128 ∷ []))
unfolding chars encode
last-character = refl

last-empty_text : last_row (text [] ∷ []) ≡ Ok (text [])
unfolding chars encode
last-empty_text = refl

last-one : last_row (text (codes "a") ∷ []) ≡ Ok (text (codes "a"))
unfolding chars encode
last-one = refl

last-list : last_row (listed (plus 1 ∷ listed (plus 2 ∷ []) ∷ []) ∷ []) ≡ Ok (listed (plus 2 ∷ []))
unfolding chars encode
last-list = refl

last-empty_list : last_row (listed [] ∷ []) ≡ Ok null
unfolding chars encode
last-empty_list = refl

last-null : last_row (null ∷ []) ≡ Err (EvalFault.WrongType Fun.Last 1)
unfolding chars encode
last-null = refl

-- take
take-text : take_row (text (codes "abc") ∷ plus 2 ∷ []) ≡ Ok (text (codes "ab"))
unfolding chars encode
take-text = refl

take-character : take_row (text (195 ∷ 169 ∷ 97 ∷ []) ∷ plus 1 ∷ []) ≡ Ok (text (195 ∷ 169 ∷ []))
unfolding chars encode
take-character = refl

take-none : take_row (text (codes "abc") ∷ plus 0 ∷ []) ≡ Ok (text [])
unfolding chars encode
take-none = refl

take-more : take_row (text (codes "abc") ∷ plus 9 ∷ []) ≡ Ok (text (codes "abc"))
unfolding chars encode
take-more = refl

take-greatest : take_row (text (codes "abc") ∷ greatest ∷ []) ≡ Ok (text (codes "abc"))
unfolding chars encode
take-greatest = refl

take-list : take_row (listed (plus 1 ∷ plus 2 ∷ plus 3 ∷ []) ∷ plus 2 ∷ []) ≡ Ok (listed (plus 1 ∷ plus 2 ∷ []))
unfolding chars encode
take-list = refl

take-list_none : take_row (listed (plus 1 ∷ []) ∷ plus 0 ∷ []) ≡ Ok (listed [])
unfolding chars encode
take-list_none = refl

take-list_more : take_row (listed (plus 1 ∷ plus 2 ∷ []) ∷ greatest ∷ []) ≡ Ok (listed (plus 1 ∷ plus 2 ∷ []))
unfolding chars encode
take-list_more = refl

take-minus : take_row (text (codes "abc") ∷ minus 1 ∷ []) ≡ Err (EvalFault.Range Fun.Take)
unfolding chars encode
take-minus = refl

take-list_below : take_row (listed (plus 1 ∷ []) ∷ least ∷ []) ≡ Err (EvalFault.Range Fun.Take)
unfolding chars encode
take-list_below = refl

take-object : take_row (fields [] ∷ plus 1 ∷ []) ≡ Err (EvalFault.WrongType Fun.Take 1)
unfolding chars encode
take-object = refl

take-leftmost : take_row (boolean true ∷ text (codes "x") ∷ []) ≡ Err (EvalFault.WrongType Fun.Take 1)
unfolding chars encode
take-leftmost = refl

take-type_before_range : take_row (null ∷ minus 1 ∷ []) ≡ Err (EvalFault.WrongType Fun.Take 1)
unfolding chars encode
take-type_before_range = refl

take-no_number : take_row (listed (plus 1 ∷ []) ∷ text (codes "1") ∷ []) ≡ Err (EvalFault.WrongType Fun.Take 2)
unfolding chars encode
take-no_number = refl

take-no_number_text : take_row (text (codes "a") ∷ text (codes "1") ∷ []) ≡ Err (EvalFault.WrongType Fun.Take 2)
unfolding chars encode
take-no_number_text = refl

-- skip
skip-text : skip_row (text (codes "abc") ∷ plus 2 ∷ []) ≡ Ok (text (codes "c"))
unfolding chars encode
skip-text = refl

skip-character : skip_row (text (195 ∷ 169 ∷ 97 ∷ []) ∷ plus 1 ∷ []) ≡ Ok (text (codes "a"))
unfolding chars encode
skip-character = refl

skip-none : skip_row (text (codes "abc") ∷ plus 0 ∷ []) ≡ Ok (text (codes "abc"))
unfolding chars encode
skip-none = refl

skip-more : skip_row (text (codes "abc") ∷ plus 9 ∷ []) ≡ Ok (text [])
unfolding chars encode
skip-more = refl

skip-list : skip_row (listed (plus 1 ∷ plus 2 ∷ plus 3 ∷ []) ∷ plus 1 ∷ []) ≡ Ok (listed (plus 2 ∷ plus 3 ∷ []))
unfolding chars encode
skip-list = refl

skip-list_all : skip_row (listed (plus 1 ∷ plus 2 ∷ []) ∷ plus 2 ∷ []) ≡ Ok (listed [])
unfolding chars encode
skip-list_all = refl

skip-list_more : skip_row (listed (plus 1 ∷ plus 2 ∷ []) ∷ greatest ∷ []) ≡ Ok (listed [])
unfolding chars encode
skip-list_more = refl

skip-minus : skip_row (text (codes "abc") ∷ minus 1 ∷ []) ≡ Err (EvalFault.Range Fun.Skip)
unfolding chars encode
skip-minus = refl

skip-list_below : skip_row (listed (plus 1 ∷ []) ∷ minus 1 ∷ []) ≡ Err (EvalFault.Range Fun.Skip)
unfolding chars encode
skip-list_below = refl

skip-number : skip_row (plus 1 ∷ plus 1 ∷ []) ≡ Err (EvalFault.WrongType Fun.Skip 1)
unfolding chars encode
skip-number = refl

skip-no_number : skip_row (listed (plus 1 ∷ []) ∷ null ∷ []) ≡ Err (EvalFault.WrongType Fun.Skip 2)
unfolding chars encode
skip-no_number = refl

-- join
join-texts : join_row (listed (text (codes "a") ∷ text (codes "b") ∷ text [] ∷ []) ∷ text (codes "-") ∷ [])
    ≡ Ok (text (codes "a-b-"))
join-texts = refl

join-one : join_row (listed (text (codes "a") ∷ []) ∷ text (codes ", ") ∷ []) ≡ Ok (text (codes "a"))
join-one = refl

join-none : join_row (listed [] ∷ text (codes ", ") ∷ []) ≡ Ok (text [])
join-none = refl

join-nothing_between : join_row (listed (text (codes "a") ∷ text (codes "b") ∷ []) ∷ text [] ∷ [])
    ≡ Ok (text (codes "ab"))
join-nothing_between = refl

join-no_list : join_row (text (codes "ab") ∷ text (codes ",") ∷ []) ≡ Err (EvalFault.WrongType Fun.Join 1)
join-no_list = refl

join-no_text : join_row (listed [] ∷ plus 1 ∷ []) ≡ Err (EvalFault.WrongType Fun.Join 2)
join-no_text = refl

-- createArray
create_array-none : create_array_row [] ≡ Ok (listed [])
create_array-none = refl

create_array-some : create_array_row (plus 1 ∷ text (codes "a") ∷ listed (null ∷ []) ∷ [])
    ≡ Ok (listed (plus 1 ∷ text (codes "a") ∷ listed (null ∷ []) ∷ []))
create_array-some = refl

create_array-deep : create_array_row (nested 64 ∷ []) ≡ Err (EvalFault.TooBig 65 65)
create_array-deep = refl

create_array-deepest : create_array_row (nested 63 ∷ []) ≡ Ok (nested 64)
create_array-deepest = refl

-- array
array-list : array_row (listed (plus 1 ∷ []) ∷ []) ≡ Ok (listed (plus 1 ∷ []))
array-list = refl

array-empty_list : array_row (listed [] ∷ []) ≡ Ok (listed [])
array-empty_list = refl

array-text : array_row (text (codes "a") ∷ []) ≡ Ok (listed (text (codes "a") ∷ []))
array-text = refl

array-null : array_row (null ∷ []) ≡ Ok (listed (null ∷ []))
array-null = refl

array-object : array_row (fields ((codes "a", plus 1) ∷ []) ∷ []) ≡ Ok (listed (fields ((codes "a", plus 1) ∷ []) ∷ []))
array-object = refl

-- range
range-numbers : range_row (plus 1 ∷ plus 4 ∷ []) ≡ Ok (listed (plus 1 ∷ plus 2 ∷ plus 3 ∷ plus 4 ∷ []))
range-numbers = refl

range-below_zero : range_row (minus 2 ∷ plus 3 ∷ []) ≡ Ok (listed (minus 2 ∷ minus 1 ∷ plus 0 ∷ []))
range-below_zero = refl

range-none : range_row (plus 5 ∷ plus 0 ∷ []) ≡ Ok (listed [])
range-none = refl

range-none_at_end : range_row (greatest ∷ plus 0 ∷ []) ≡ Ok (listed [])
range-none_at_end = refl

range-last_fits : range_row (greatest ∷ plus 1 ∷ []) ≡ Ok (listed (greatest ∷ []))
range-last_fits = refl

range-past : range_row (greatest ∷ plus 2 ∷ []) ≡ Err (EvalFault.Range Fun.Range)
range-past = refl

range-least : range_row (least ∷ plus 2 ∷ []) ≡ Ok (listed (least ∷ minus 9223372036854775807 ∷ []))
range-least = refl

range-negative : range_row (plus 1 ∷ minus 1 ∷ []) ≡ Err (EvalFault.Range Fun.Range)
range-negative = refl

range-least_count : range_row (plus 0 ∷ least ∷ []) ≡ Err (EvalFault.Range Fun.Range)
range-least_count = refl

range-no_number : range_row (text (codes "1") ∷ plus 2 ∷ []) ≡ Err (EvalFault.WrongType Fun.Range 1)
range-no_number = refl

range-no_count : range_row (plus 1 ∷ null ∷ []) ≡ Err (EvalFault.WrongType Fun.Range 2)
range-no_count = refl

range-leftmost : range_row (null ∷ null ∷ []) ≡ Err (EvalFault.WrongType Fun.Range 1)
range-leftmost = refl

-- chunk
chunk-text : chunk_row (text (codes "abcde") ∷ plus 2 ∷ [])
    ≡ Ok (listed (text (codes "ab") ∷ text (codes "cd") ∷ text (codes "e") ∷ []))
unfolding chars encode
chunk-text = refl

chunk-characters : chunk_row (text (97 ∷ 195 ∷ 169 ∷ 98 ∷ 240 ∷ 159 ∷ 152 ∷ 128 ∷ 99 ∷ []) ∷ plus 2 ∷ [])
    ≡ Ok (listed (text (97 ∷ 195 ∷ 169 ∷ []) ∷ text (98 ∷ 240 ∷ 159 ∷ 152 ∷ 128 ∷ []) ∷ text (codes "c") ∷ []))
unfolding chars encode
chunk-characters = refl

chunk-whole : chunk_row (text (codes "abcd") ∷ plus 2 ∷ []) ≡ Ok (listed (text (codes "ab") ∷ text (codes "cd") ∷ []))
unfolding chars encode
chunk-whole = refl

chunk-longer : chunk_row (text (codes "ab") ∷ plus 5 ∷ []) ≡ Ok (listed (text (codes "ab") ∷ []))
unfolding chars encode
chunk-longer = refl

chunk-one : chunk_row (text (codes "ab") ∷ plus 1 ∷ []) ≡ Ok (listed (text (codes "a") ∷ text (codes "b") ∷ []))
unfolding chars encode
chunk-one = refl

chunk-empty_text : chunk_row (text [] ∷ plus 2 ∷ []) ≡ Ok (listed [])
unfolding chars encode
chunk-empty_text = refl

chunk-greatest : chunk_row (text (codes "ab") ∷ greatest ∷ []) ≡ Ok (listed (text (codes "ab") ∷ []))
unfolding chars encode
chunk-greatest = refl

chunk-list : chunk_row (listed (plus 1 ∷ plus 2 ∷ plus 3 ∷ []) ∷ plus 2 ∷ [])
    ≡ Ok (listed (listed (plus 1 ∷ plus 2 ∷ []) ∷ listed (plus 3 ∷ []) ∷ []))
unfolding chars encode
chunk-list = refl

chunk-list_whole : chunk_row (listed (plus 1 ∷ plus 2 ∷ plus 3 ∷ plus 4 ∷ []) ∷ plus 2 ∷ [])
    ≡ Ok (listed (listed (plus 1 ∷ plus 2 ∷ []) ∷ listed (plus 3 ∷ plus 4 ∷ []) ∷ []))
unfolding chars encode
chunk-list_whole = refl

chunk-empty_list : chunk_row (listed [] ∷ plus 3 ∷ []) ≡ Ok (listed [])
unfolding chars encode
chunk-empty_list = refl

chunk-zero : chunk_row (text (codes "ab") ∷ plus 0 ∷ []) ≡ Err (EvalFault.Range Fun.Chunk)
unfolding chars encode
chunk-zero = refl

chunk-list_zero : chunk_row (listed [] ∷ plus 0 ∷ []) ≡ Err (EvalFault.Range Fun.Chunk)
unfolding chars encode
chunk-list_zero = refl

chunk-negative : chunk_row (listed (plus 1 ∷ []) ∷ minus 1 ∷ []) ≡ Err (EvalFault.Range Fun.Chunk)
unfolding chars encode
chunk-negative = refl

chunk-no_number : chunk_row (text (codes "ab") ∷ text (codes "2") ∷ []) ≡ Err (EvalFault.WrongType Fun.Chunk 2)
unfolding chars encode
chunk-no_number = refl

chunk-type_before_range : chunk_row (null ∷ plus 0 ∷ []) ≡ Err (EvalFault.WrongType Fun.Chunk 1)
unfolding chars encode
chunk-type_before_range = refl

-- reverse
reverse-list : reverse_row (listed (plus 1 ∷ plus 2 ∷ plus 3 ∷ []) ∷ []) ≡ Ok (listed (plus 3 ∷ plus 2 ∷ plus 1 ∷ []))
reverse-list = refl

reverse-none : reverse_row (listed [] ∷ []) ≡ Ok (listed [])
reverse-none = refl

reverse-text : reverse_row (text (codes "abc") ∷ []) ≡ Err (EvalFault.WrongType Fun.Reverse 1)
reverse-text = refl

-- addProperty
add_property-front : add_property_row (fields ((codes "b", plus 1) ∷ []) ∷ text (codes "a") ∷ plus 2 ∷ [])
    ≡ Ok (fields ((codes "a", plus 2) ∷ (codes "b", plus 1) ∷ []))
add_property-front = refl

add_property-end : add_property_row (fields ((codes "a", plus 1) ∷ []) ∷ text (codes "b") ∷ null ∷ [])
    ≡ Ok (fields ((codes "a", plus 1) ∷ (codes "b", null) ∷ []))
add_property-end = refl

add_property-there : add_property_row (fields ((codes "b", plus 1) ∷ []) ∷ text (codes "b") ∷ plus 2 ∷ [])
    ≡ Err (EvalFault.Range Fun.AddProperty)
add_property-there = refl

add_property-other_case : add_property_row (fields ((codes "b", plus 1) ∷ []) ∷ text (codes "B") ∷ plus 2 ∷ [])
    ≡ Ok (fields ((codes "B", plus 2) ∷ (codes "b", plus 1) ∷ []))
add_property-other_case = refl

add_property-empty_name : add_property_row (fields [] ∷ text [] ∷ plus 1 ∷ []) ≡ Ok (fields (([], plus 1) ∷ []))
add_property-empty_name = refl

add_property-no_object : add_property_row (listed [] ∷ text (codes "a") ∷ plus 1 ∷ [])
    ≡ Err (EvalFault.WrongType Fun.AddProperty 1)
add_property-no_object = refl

add_property-no_name : add_property_row (fields [] ∷ plus 1 ∷ plus 1 ∷ []) ≡ Err (EvalFault.WrongType Fun.AddProperty 2)
add_property-no_name = refl

add_property-leftmost : add_property_row (null ∷ null ∷ plus 1 ∷ []) ≡ Err (EvalFault.WrongType Fun.AddProperty 1)
add_property-leftmost = refl

-- setProperty
set_property-added : set_property_row (fields ((codes "b", plus 1) ∷ []) ∷ text (codes "a") ∷ plus 2 ∷ [])
    ≡ Ok (fields ((codes "a", plus 2) ∷ (codes "b", plus 1) ∷ []))
set_property-added = refl

set_property-replaced :
    set_property_row (fields ((codes "a", plus 0) ∷ (codes "b", plus 1) ∷ (codes "c", plus 3) ∷ []) ∷ text (codes "b") ∷ listed (plus 2 ∷ []) ∷ [])
    ≡ Ok (fields ((codes "a", plus 0) ∷ (codes "b", listed (plus 2 ∷ [])) ∷ (codes "c", plus 3) ∷ []))
set_property-replaced = refl

set_property-no_object : set_property_row (text (codes "{}") ∷ text (codes "a") ∷ plus 1 ∷ [])
    ≡ Err (EvalFault.WrongType Fun.SetProperty 1)
set_property-no_object = refl

set_property-no_name : set_property_row (fields ((codes "a", plus 1) ∷ []) ∷ null ∷ plus 1 ∷ [])
    ≡ Err (EvalFault.WrongType Fun.SetProperty 2)
set_property-no_name = refl

-- removeProperty
remove_property-removed :
    remove_property_row (fields ((codes "a", plus 0) ∷ (codes "b", plus 1) ∷ (codes "c", plus 3) ∷ []) ∷ text (codes "b") ∷ [])
    ≡ Ok (fields ((codes "a", plus 0) ∷ (codes "c", plus 3) ∷ []))
remove_property-removed = refl

remove_property-absent : remove_property_row (fields ((codes "b", plus 1) ∷ []) ∷ text (codes "c") ∷ [])
    ≡ Ok (fields ((codes "b", plus 1) ∷ []))
remove_property-absent = refl

remove_property-other_case : remove_property_row (fields ((codes "b", plus 1) ∷ []) ∷ text (codes "B") ∷ [])
    ≡ Ok (fields ((codes "b", plus 1) ∷ []))
remove_property-other_case = refl

remove_property-no_object : remove_property_row (listed [] ∷ text (codes "a") ∷ [])
    ≡ Err (EvalFault.WrongType Fun.RemoveProperty 1)
remove_property-no_object = refl

remove_property-no_name : remove_property_row (fields ((codes "a", plus 1) ∷ []) ∷ plus 0 ∷ [])
    ≡ Err (EvalFault.WrongType Fun.RemoveProperty 2)
remove_property-no_name = refl
