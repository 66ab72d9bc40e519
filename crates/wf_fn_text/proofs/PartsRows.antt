-- Rows of the functions substring and slice.
use lib.Utf8.{encode}
use Rattle.std.proofs.Common.{◌≡◌, refl, [], ◌∷◌, Ok, Err}
use Rattle.std.specs.Str.{chars}
use Rattle.wf_fn_text.specs.Parts.{substring_row, slice_row}
use Rattle.wf_val.proofs.RowValues.{yes, plus, minus, greatest, least, word}
use Rattle.wf_val.specs.ValueTree.{null, text}
use Rattle.wf_val.specs.declared.fault.EvalFault.{EvalFault}
use Rattle.wf_val.specs.declared.function.Fun.{Fun}

-- substring
substring-example : substring_row (word "hello world" ∷ plus 6 ∷ plus 5 ∷ []) ≡ Ok (word "world")
unfolding chars encode
substring-example = refl

substring-to_the_end : substring_row (word "hello world" ∷ plus 6 ∷ []) ≡ Ok (word "world")
unfolding chars encode
substring-to_the_end = refl

substring-whole : substring_row (word "abc" ∷ plus 0 ∷ plus 3 ∷ []) ≡ Ok (word "abc")
unfolding chars encode
substring-whole = refl

substring-none : substring_row (word "abc" ∷ plus 1 ∷ plus 0 ∷ []) ≡ Ok (word "")
unfolding chars encode
substring-none = refl

substring-at_the_end : substring_row (word "abc" ∷ plus 3 ∷ []) ≡ Ok (word "")
unfolding chars encode
substring-at_the_end = refl

substring-none_at_the_end : substring_row (word "abc" ∷ plus 3 ∷ plus 0 ∷ []) ≡ Ok (word "")
unfolding chars encode
substring-none_at_the_end = refl

substring-of_nothing : substring_row (word "" ∷ plus 0 ∷ []) ≡ Ok (word "")
unfolding chars encode
substring-of_nothing = refl

substring-behind_the_end : substring_row (word "abc" ∷ plus 4 ∷ []) ≡ Err (EvalFault.Range Fun.Substring)
unfolding chars encode
substring-behind_the_end = refl

substring-none_behind_the_end : substring_row (word "abc" ∷ plus 4 ∷ plus 0 ∷ []) ≡ Err (EvalFault.Range Fun.Substring)
unfolding chars encode
substring-none_behind_the_end = refl

substring-one_too_many : substring_row (word "abc" ∷ plus 1 ∷ plus 3 ∷ []) ≡ Err (EvalFault.Range Fun.Substring)
unfolding chars encode
substring-one_too_many = refl

substring-before_the_start : substring_row (word "abc" ∷ minus 1 ∷ []) ≡ Err (EvalFault.Range Fun.Substring)
unfolding chars encode
substring-before_the_start = refl

substring-count_below : substring_row (word "abc" ∷ plus 0 ∷ minus 1 ∷ []) ≡ Err (EvalFault.Range Fun.Substring)
unfolding chars encode
substring-count_below = refl

substring-greatest : substring_row (word "abc" ∷ greatest ∷ greatest ∷ []) ≡ Err (EvalFault.Range Fun.Substring)
unfolding chars encode
substring-greatest = refl

substring-count_greatest : substring_row (word "abc" ∷ plus 1 ∷ greatest ∷ []) ≡ Err (EvalFault.Range Fun.Substring)
unfolding chars encode
substring-count_greatest = refl

substring-least : substring_row (word "abc" ∷ least ∷ least ∷ []) ≡ Err (EvalFault.Range Fun.Substring)
unfolding chars encode
substring-least = refl

substring-two_bytes : substring_row (text (97 ∷ 195 ∷ 169 ∷ 98 ∷ []) ∷ plus 1 ∷ plus 1 ∷ []) ≡ Ok (text (195 ∷ 169 ∷ []))
unfolding chars encode
substring-two_bytes = refl

substring-three_bytes : substring_row (text (97 ∷ 226 ∷ 130 ∷ 172 ∷ 98 ∷ []) ∷ plus 2 ∷ []) ≡ Ok (word "b")
unfolding chars encode
substring-three_bytes = refl

substring-four_bytes : substring_row (text (240 ∷ 159 ∷ 152 ∷ 128 ∷ 97 ∷ []) ∷ plus 0 ∷ plus 1 ∷ [])
    ≡ Ok (text (240 ∷ 159 ∷ 152 ∷ 128 ∷ []))
unfolding chars encode
substring-four_bytes = refl

substring-counts_characters : substring_row (text (195 ∷ 169 ∷ 195 ∷ 169 ∷ []) ∷ plus 1 ∷ plus 2 ∷ []) ≡ Err (EvalFault.Range Fun.Substring)
unfolding chars encode
substring-counts_characters = refl

substring-first : substring_row (plus 1 ∷ word "a" ∷ null ∷ []) ≡ Err (EvalFault.WrongType Fun.Substring 1)
substring-first = refl

substring-second : substring_row (word "abc" ∷ word "1" ∷ null ∷ []) ≡ Err (EvalFault.WrongType Fun.Substring 2)
substring-second = refl

substring-third : substring_row (word "abc" ∷ plus 9 ∷ null ∷ []) ≡ Err (EvalFault.WrongType Fun.Substring 3)
substring-third = refl

-- slice
slice-example : slice_row (word "Hello World" ∷ plus 2 ∷ plus 5 ∷ []) ≡ Ok (word "llo")
unfolding chars encode
slice-example = refl

slice-from_the_end : slice_row (word "Hello World" ∷ minus 5 ∷ []) ≡ Ok (word "World")
unfolding chars encode
slice-from_the_end = refl

slice-between_from_the_end : slice_row (word "Hello World" ∷ minus 5 ∷ minus 1 ∷ []) ≡ Ok (word "Worl")
unfolding chars encode
slice-between_from_the_end = refl

slice-whole : slice_row (word "abc" ∷ plus 0 ∷ []) ≡ Ok (word "abc")
unfolding chars encode
slice-whole = refl

slice-end_left_out : slice_row (word "abc" ∷ plus 0 ∷ plus 2 ∷ []) ≡ Ok (word "ab")
unfolding chars encode
slice-end_left_out = refl

slice-turned_round : slice_row (word "abc" ∷ plus 2 ∷ plus 1 ∷ []) ≡ Ok (word "")
unfolding chars encode
slice-turned_round = refl

slice-same_place : slice_row (word "abc" ∷ plus 1 ∷ plus 1 ∷ []) ≡ Ok (word "")
unfolding chars encode
slice-same_place = refl

slice-cut_before : slice_row (word "abc" ∷ minus 9 ∷ plus 2 ∷ []) ≡ Ok (word "ab")
unfolding chars encode
slice-cut_before = refl

slice-cut_behind : slice_row (word "abc" ∷ plus 1 ∷ plus 9 ∷ []) ≡ Ok (word "bc")
unfolding chars encode
slice-cut_behind = refl

slice-behind : slice_row (word "abc" ∷ plus 4 ∷ []) ≡ Ok (word "")
unfolding chars encode
slice-behind = refl

slice-end_before : slice_row (word "abc" ∷ plus 0 ∷ minus 4 ∷ []) ≡ Ok (word "")
unfolding chars encode
slice-end_before = refl

slice-minus_length : slice_row (word "abc" ∷ minus 3 ∷ []) ≡ Ok (word "abc")
unfolding chars encode
slice-minus_length = refl

slice-least : slice_row (word "abc" ∷ least ∷ greatest ∷ []) ≡ Ok (word "abc")
unfolding chars encode
slice-least = refl

slice-greatest : slice_row (word "abc" ∷ greatest ∷ least ∷ []) ≡ Ok (word "")
unfolding chars encode
slice-greatest = refl

slice-of_nothing : slice_row (word "" ∷ minus 1 ∷ plus 1 ∷ []) ≡ Ok (word "")
unfolding chars encode
slice-of_nothing = refl

slice-two_bytes : slice_row (text (97 ∷ 195 ∷ 169 ∷ 98 ∷ []) ∷ minus 2 ∷ minus 1 ∷ []) ≡ Ok (text (195 ∷ 169 ∷ []))
unfolding chars encode
slice-two_bytes = refl

slice-four_bytes : slice_row (text (240 ∷ 159 ∷ 152 ∷ 128 ∷ 97 ∷ 98 ∷ []) ∷ plus 1 ∷ plus 2 ∷ []) ≡ Ok (word "a")
unfolding chars encode
slice-four_bytes = refl

slice-first : slice_row (null ∷ plus 1 ∷ []) ≡ Err (EvalFault.WrongType Fun.Slice 1)
slice-first = refl

slice-second : slice_row (word "abc" ∷ null ∷ yes ∷ []) ≡ Err (EvalFault.WrongType Fun.Slice 2)
slice-second = refl

slice-third : slice_row (word "abc" ∷ plus 1 ∷ word "2" ∷ []) ≡ Err (EvalFault.WrongType Fun.Slice 3)
slice-third = refl
