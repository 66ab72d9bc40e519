-- Rows of the functions startsWith, endsWith, indexOf and lastIndexOf.
use lib.Utf8.{encode}
use Rattle.std.proofs.Common.{◌≡◌, refl, [], ◌∷◌, Ok, Err}
use Rattle.std.specs.Str.{chars}
use Rattle.wf_fn_text.specs.Places.{starts_with_row, ends_with_row, index_of_row, last_index_of_row}
use Rattle.wf_val.proofs.RowValues.{yes, no, plus, minus, word}
use Rattle.wf_val.specs.ValueTree.{null, text}
use Rattle.wf_val.specs.declared.fault.EvalFault.{EvalFault}
use Rattle.wf_val.specs.declared.function.Fun.{Fun}

-- startsWith
starts_with-example : starts_with_row (word "hello" ∷ word "hel" ∷ []) ≡ Ok yes
unfolding chars encode
starts_with-example = refl

starts_with-other : starts_with_row (word "hello" ∷ word "ello" ∷ []) ≡ Ok no
unfolding chars encode
starts_with-other = refl

starts_with-letter_case : starts_with_row (word "HeLLo" ∷ word "HEL" ∷ []) ≡ Ok yes
unfolding chars encode
starts_with-letter_case = refl

starts_with-whole : starts_with_row (word "Abc" ∷ word "aBC" ∷ []) ≡ Ok yes
unfolding chars encode
starts_with-whole = refl

starts_with-longer : starts_with_row (word "abc" ∷ word "abcabc" ∷ []) ≡ Ok no
unfolding chars encode
starts_with-longer = refl

starts_with-empty_second : starts_with_row (word "abc" ∷ word "" ∷ []) ≡ Ok yes
unfolding chars encode
starts_with-empty_second = refl

starts_with-empty_both : starts_with_row (word "" ∷ word "" ∷ []) ≡ Ok yes
unfolding chars encode
starts_with-empty_both = refl

starts_with-of_nothing : starts_with_row (word "" ∷ word "a" ∷ []) ≡ Ok no
unfolding chars encode
starts_with-of_nothing = refl

starts_with-other_letter : starts_with_row (text (195 ∷ 169 ∷ []) ∷ text (195 ∷ 137 ∷ []) ∷ []) ≡ Ok no
unfolding chars encode
starts_with-other_letter = refl

starts_with-kelvin : starts_with_row (word "k" ∷ text (226 ∷ 132 ∷ 170 ∷ []) ∷ []) ≡ Ok no
unfolding chars encode
starts_with-kelvin = refl

starts_with-first : starts_with_row (plus 1 ∷ null ∷ []) ≡ Err (EvalFault.WrongType Fun.StartsWith 1)
starts_with-first = refl

starts_with-second : starts_with_row (word "a" ∷ plus 1 ∷ []) ≡ Err (EvalFault.WrongType Fun.StartsWith 2)
starts_with-second = refl

-- endsWith
ends_with-example : ends_with_row (word "hello" ∷ word "llo" ∷ []) ≡ Ok yes
unfolding chars encode
ends_with-example = refl

ends_with-other : ends_with_row (word "hello" ∷ word "hell" ∷ []) ≡ Ok no
unfolding chars encode
ends_with-other = refl

ends_with-letter_case : ends_with_row (word "HeLLo" ∷ word "LLO" ∷ []) ≡ Ok yes
unfolding chars encode
ends_with-letter_case = refl

ends_with-whole : ends_with_row (word "Abc" ∷ word "aBC" ∷ []) ≡ Ok yes
unfolding chars encode
ends_with-whole = refl

ends_with-longer : ends_with_row (word "abc" ∷ word "abcabc" ∷ []) ≡ Ok no
unfolding chars encode
ends_with-longer = refl

ends_with-empty_second : ends_with_row (word "abc" ∷ word "" ∷ []) ≡ Ok yes
unfolding chars encode
ends_with-empty_second = refl

ends_with-empty_both : ends_with_row (word "" ∷ word "" ∷ []) ≡ Ok yes
unfolding chars encode
ends_with-empty_both = refl

ends_with-of_nothing : ends_with_row (word "" ∷ word "a" ∷ []) ≡ Ok no
unfolding chars encode
ends_with-of_nothing = refl

ends_with-other_letter : ends_with_row (text (195 ∷ 169 ∷ []) ∷ text (195 ∷ 137 ∷ []) ∷ []) ≡ Ok no
unfolding chars encode
ends_with-other_letter = refl

ends_with-kelvin : ends_with_row (word "k" ∷ text (226 ∷ 132 ∷ 170 ∷ []) ∷ []) ≡ Ok no
unfolding chars encode
ends_with-kelvin = refl

ends_with-first : ends_with_row (plus 1 ∷ null ∷ []) ≡ Err (EvalFault.WrongType Fun.EndsWith 1)
ends_with-first = refl

ends_with-second : ends_with_row (word "a" ∷ plus 1 ∷ []) ≡ Err (EvalFault.WrongType Fun.EndsWith 2)
ends_with-second = refl

-- indexOf
index_of-example : index_of_row (word "hello world" ∷ word "WORLD" ∷ []) ≡ Ok (plus 6)
unfolding chars encode
index_of-example = refl

index_of-several : index_of_row (word "abcabc" ∷ word "bc" ∷ []) ≡ Ok (plus 1)
unfolding chars encode
index_of-several = refl

index_of-overlapping : index_of_row (word "aaa" ∷ word "aa" ∷ []) ≡ Ok (plus 0)
unfolding chars encode
index_of-overlapping = refl

index_of-one : index_of_row (word "AaA" ∷ word "a" ∷ []) ≡ Ok (plus 0)
unfolding chars encode
index_of-one = refl

index_of-whole : index_of_row (word "abc" ∷ word "ABC" ∷ []) ≡ Ok (plus 0)
unfolding chars encode
index_of-whole = refl

index_of-absent : index_of_row (word "abc" ∷ word "d" ∷ []) ≡ Ok (minus 1)
unfolding chars encode
index_of-absent = refl

index_of-longer : index_of_row (word "ab" ∷ word "abc" ∷ []) ≡ Ok (minus 1)
unfolding chars encode
index_of-longer = refl

index_of-of_nothing : index_of_row (word "" ∷ word "a" ∷ []) ≡ Ok (minus 1)
unfolding chars encode
index_of-of_nothing = refl

index_of-empty_second : index_of_row (word "abc" ∷ word "" ∷ []) ≡ Ok (plus 0)
unfolding chars encode
index_of-empty_second = refl

index_of-empty_of_one : index_of_row (word "a" ∷ word "" ∷ []) ≡ Ok (plus 0)
unfolding chars encode
index_of-empty_of_one = refl

index_of-empty_both : index_of_row (word "" ∷ word "" ∷ []) ≡ Ok (plus 0)
unfolding chars encode
index_of-empty_both = refl

index_of-two_bytes : index_of_row (text (195 ∷ 169 ∷ 195 ∷ 169 ∷ 120 ∷ []) ∷ word "x" ∷ []) ≡ Ok (plus 2)
unfolding chars encode
index_of-two_bytes = refl

index_of-four_bytes : index_of_row (text (240 ∷ 159 ∷ 152 ∷ 128 ∷ 98 ∷ 240 ∷ 159 ∷ 152 ∷ 128 ∷ []) ∷ text (240 ∷ 159 ∷ 152 ∷ 128 ∷ []) ∷
    []) ≡ Ok (plus 0)
unfolding chars encode
index_of-four_bytes = refl

index_of-empty_second_of_two_bytes : index_of_row (text (195 ∷ 169 ∷ 195 ∷ 169 ∷ []) ∷ word "" ∷ []) ≡ Ok (plus 0)
unfolding chars encode
index_of-empty_second_of_two_bytes = refl

index_of-same_first_byte : index_of_row (text (195 ∷ 169 ∷ 195 ∷ 168 ∷ []) ∷ text (195 ∷ 168 ∷ []) ∷ []) ≡ Ok (plus 1)
unfolding chars encode
index_of-same_first_byte = refl

index_of-other_letter : index_of_row (text (195 ∷ 169 ∷ []) ∷ text (195 ∷ 137 ∷ []) ∷ []) ≡ Ok (minus 1)
unfolding chars encode
index_of-other_letter = refl

index_of-first : index_of_row (null ∷ word "" ∷ []) ≡ Err (EvalFault.WrongType Fun.IndexOf 1)
index_of-first = refl

index_of-second : index_of_row (word "abc" ∷ plus 0 ∷ []) ≡ Err (EvalFault.WrongType Fun.IndexOf 2)
index_of-second = refl

-- lastIndexOf
last_index_of-example : last_index_of_row (word "hello world" ∷ word "WORLD" ∷ []) ≡ Ok (plus 6)
unfolding chars encode
last_index_of-example = refl

last_index_of-several : last_index_of_row (word "abcabc" ∷ word "bc" ∷ []) ≡ Ok (plus 4)
unfolding chars encode
last_index_of-several = refl

last_index_of-overlapping : last_index_of_row (word "aaa" ∷ word "aa" ∷ []) ≡ Ok (plus 1)
unfolding chars encode
last_index_of-overlapping = refl

last_index_of-one : last_index_of_row (word "AaA" ∷ word "a" ∷ []) ≡ Ok (plus 2)
unfolding chars encode
last_index_of-one = refl

last_index_of-whole : last_index_of_row (word "abc" ∷ word "ABC" ∷ []) ≡ Ok (plus 0)
unfolding chars encode
last_index_of-whole = refl

last_index_of-absent : last_index_of_row (word "abc" ∷ word "d" ∷ []) ≡ Ok (minus 1)
unfolding chars encode
last_index_of-absent = refl

last_index_of-longer : last_index_of_row (word "ab" ∷ word "abc" ∷ []) ≡ Ok (minus 1)
unfolding chars encode
last_index_of-longer = refl

last_index_of-of_nothing : last_index_of_row (word "" ∷ word "a" ∷ []) ≡ Ok (minus 1)
unfolding chars encode
last_index_of-of_nothing = refl

last_index_of-empty_second : last_index_of_row (word "abc" ∷ word "" ∷ []) ≡ Ok (plus 2)
unfolding chars encode
last_index_of-empty_second = refl

last_index_of-empty_of_one : last_index_of_row (word "a" ∷ word "" ∷ []) ≡ Ok (plus 0)
unfolding chars encode
last_index_of-empty_of_one = refl

last_index_of-empty_both : last_index_of_row (word "" ∷ word "" ∷ []) ≡ Ok (plus 0)
unfolding chars encode
last_index_of-empty_both = refl

last_index_of-two_bytes : last_index_of_row (text (195 ∷ 169 ∷ 195 ∷ 169 ∷ 120 ∷ []) ∷ word "x" ∷ []) ≡ Ok (plus 2)
unfolding chars encode
last_index_of-two_bytes = refl

last_index_of-four_bytes : last_index_of_row (text (240 ∷ 159 ∷ 152 ∷ 128 ∷ 98 ∷ 240 ∷ 159 ∷ 152 ∷ 128 ∷ []) ∷ text (240 ∷ 159 ∷ 152 ∷
    128 ∷ []) ∷ []) ≡ Ok (plus 2)
unfolding chars encode
last_index_of-four_bytes = refl

last_index_of-empty_second_of_two_bytes : last_index_of_row (text (195 ∷ 169 ∷ 195 ∷ 169 ∷ []) ∷ word "" ∷ []) ≡ Ok (plus 1)
unfolding chars encode
last_index_of-empty_second_of_two_bytes = refl

last_index_of-same_first_byte : last_index_of_row (text (195 ∷ 169 ∷ 195 ∷ 168 ∷ []) ∷ text (195 ∷ 168 ∷ []) ∷ []) ≡ Ok (plus 1)
unfolding chars encode
last_index_of-same_first_byte = refl

last_index_of-other_letter : last_index_of_row (text (195 ∷ 169 ∷ []) ∷ text (195 ∷ 137 ∷ []) ∷ []) ≡ Ok (minus 1)
unfolding chars encode
last_index_of-other_letter = refl

last_index_of-first : last_index_of_row (null ∷ word "" ∷ []) ≡ Err (EvalFault.WrongType Fun.LastIndexOf 1)
last_index_of-first = refl

last_index_of-second : last_index_of_row (word "abc" ∷ plus 0 ∷ []) ≡ Err (EvalFault.WrongType Fun.LastIndexOf 2)
last_index_of-second = refl
