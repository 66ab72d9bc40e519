-- Rows of the functions split and replace.
use Rattle.std.proofs.Common.{◌≡◌, refl, [], ◌∷◌, Ok, Err}
use Rattle.wf_fn_text.specs.Pieces.{split_row, replace_row}
use Rattle.wf_val.proofs.RowValues.{plus, word, items}
use Rattle.wf_val.specs.ValueTree.{null, text}
use Rattle.wf_val.specs.declared.fault.EvalFault.{EvalFault}
use Rattle.wf_val.specs.declared.function.Fun.{Fun}

-- split
split-example : split_row (word "the apple, the pear" ∷ word ", " ∷ []) ≡ Ok (items (word "the apple" ∷ word "the pear" ∷ []))
split-example = refl

split-empty_piece : split_row (word "a,,b" ∷ word "," ∷ []) ≡ Ok (items (word "a" ∷ word "" ∷ word "b" ∷ []))
split-empty_piece = refl

split-at_the_ends : split_row (word ",a," ∷ word "," ∷ []) ≡ Ok (items (word "" ∷ word "a" ∷ word "" ∷ []))
split-at_the_ends = refl

split-only_separator : split_row (word "," ∷ word "," ∷ []) ≡ Ok (items (word "" ∷ word "" ∷ []))
split-only_separator = refl

split-absent : split_row (word "abc" ∷ word "," ∷ []) ≡ Ok (items (word "abc" ∷ []))
split-absent = refl

split-of_nothing : split_row (word "" ∷ word "," ∷ []) ≡ Ok (items (word "" ∷ []))
split-of_nothing = refl

split-overlapping : split_row (word "aaa" ∷ word "aa" ∷ []) ≡ Ok (items (word "" ∷ word "a" ∷ []))
split-overlapping = refl

split-longer_separator : split_row (word "ab" ∷ word "abc" ∷ []) ≡ Ok (items (word "ab" ∷ []))
split-longer_separator = refl

split-front_of_separator : split_row (word "aab" ∷ word "ab" ∷ []) ≡ Ok (items (word "a" ∷ word "" ∷ []))
split-front_of_separator = refl

split-letter_case : split_row (word "axAxa" ∷ word "A" ∷ []) ≡ Ok (items (word "ax" ∷ word "xa" ∷ []))
split-letter_case = refl

split-two_bytes : split_row (text (97 ∷ 195 ∷ 169 ∷ 98 ∷ []) ∷ text (195 ∷ 169 ∷ []) ∷ []) ≡ Ok (items (word "a" ∷ word "b" ∷ []))
split-two_bytes = refl

split-same_first_byte : split_row (text (195 ∷ 169 ∷ 195 ∷ 168 ∷ []) ∷ text (195 ∷ 168 ∷ []) ∷ [])
    ≡ Ok (items (text (195 ∷ 169 ∷ []) ∷ word "" ∷ []))
split-same_first_byte = refl

split-empty_separator : split_row (word "a" ∷ word "" ∷ []) ≡ Err (EvalFault.Range Fun.Split)
split-empty_separator = refl

split-empty_of_nothing : split_row (word "" ∷ word "" ∷ []) ≡ Err (EvalFault.Range Fun.Split)
split-empty_of_nothing = refl

split-first : split_row (plus 1 ∷ word "" ∷ []) ≡ Err (EvalFault.WrongType Fun.Split 1)
split-first = refl

split-second : split_row (word "a" ∷ null ∷ []) ≡ Err (EvalFault.WrongType Fun.Split 2)
split-second = refl

-- replace
replace-example : replace_row (word "the old string" ∷ word "old" ∷ word "new" ∷ []) ≡ Ok (word "the new string")
replace-example = refl

replace-every : replace_row (word "aXbXc" ∷ word "X" ∷ word "--" ∷ []) ≡ Ok (word "a--b--c")
replace-every = refl

replace-overlapping : replace_row (word "aaa" ∷ word "aa" ∷ word "b" ∷ []) ≡ Ok (word "ba")
replace-overlapping = refl

replace-not_again : replace_row (word "ab" ∷ word "a" ∷ word "aa" ∷ []) ≡ Ok (word "aab")
replace-not_again = refl

replace-not_what_was_made : replace_row (word "aab" ∷ word "ab" ∷ word "b" ∷ []) ≡ Ok (word "ab")
replace-not_what_was_made = refl

replace-by_nothing : replace_row (word "a-b-" ∷ word "-" ∷ word "" ∷ []) ≡ Ok (word "ab")
replace-by_nothing = refl

replace-whole : replace_row (word "abc" ∷ word "abc" ∷ word "" ∷ []) ≡ Ok (word "")
replace-whole = refl

replace-absent : replace_row (word "abc" ∷ word "d" ∷ word "x" ∷ []) ≡ Ok (word "abc")
replace-absent = refl

replace-of_nothing : replace_row (word "" ∷ word "a" ∷ word "x" ∷ []) ≡ Ok (word "")
replace-of_nothing = refl

replace-letter_case : replace_row (word "aA" ∷ word "A" ∷ word "x" ∷ []) ≡ Ok (word "ax")
replace-letter_case = refl

replace-two_bytes : replace_row (text (195 ∷ 169 ∷ 97 ∷ []) ∷ text (195 ∷ 169 ∷ []) ∷ word "e" ∷ []) ≡ Ok (word "ea")
replace-two_bytes = refl

replace-empty_second : replace_row (word "abc" ∷ word "" ∷ word "x" ∷ []) ≡ Err (EvalFault.Range Fun.Replace)
replace-empty_second = refl

replace-empty_of_nothing : replace_row (word "" ∷ word "" ∷ word "" ∷ []) ≡ Err (EvalFault.Range Fun.Replace)
replace-empty_of_nothing = refl

replace-first : replace_row (null ∷ word "" ∷ plus 1 ∷ []) ≡ Err (EvalFault.WrongType Fun.Replace 1)
replace-first = refl

replace-second : replace_row (word "abc" ∷ plus 1 ∷ null ∷ []) ≡ Err (EvalFault.WrongType Fun.Replace 2)
replace-second = refl

replace-third : replace_row (word "abc" ∷ word "" ∷ plus 1 ∷ []) ≡ Err (EvalFault.WrongType Fun.Replace 3)
replace-third = refl
