-- Rows of the functions equals, greater, greaterOrEquals, less, lessOrEquals and not.
use Rattle.std.proofs.Common.{◌≡◌, refl, [], ◌∷◌, Ok, Err}
use Rattle.std.specs.Prelude.{Bool, codes}
use Rattle.wf_val.specs.Arguments.{bounded}
use Rattle.wf_fn_math.specs.Comparison.{equals_row, greater_row, greater_or_equals_row, less_row, less_or_equals_row, not_row}
use Rattle.wf_val.proofs.RowValues.{yes, no, plus, minus, greatest, least, word, items, fields}
use Rattle.wf_val.specs.ValueTree.{null, boolean, text}
use Rattle.wf_val.specs.declared.fault.EvalFault.{EvalFault}
use Rattle.wf_val.specs.declared.function.Fun.{Fun}

-- equals: a truth value beside a number counts as 1 or 0
equals-numbers : equals_row (plus 5 ∷ plus 5 ∷ []) ≡ Ok yes
equals-numbers = refl

equals-numbers_differ : equals_row (plus 5 ∷ minus 5 ∷ []) ≡ Ok no
equals-numbers_differ = refl

equals-letter_case : equals_row (word "a" ∷ word "A" ∷ []) ≡ Ok no
equals-letter_case = refl

equals-texts : equals_row (word "ab" ∷ word "ab" ∷ []) ≡ Ok yes
equals-texts = refl

equals-front : equals_row (word "ab" ∷ word "abc" ∷ []) ≡ Ok no
equals-front = refl

equals-true_one : equals_row (yes ∷ plus 1 ∷ []) ≡ Ok yes
equals-true_one = refl

equals-one_true : equals_row (plus 1 ∷ yes ∷ []) ≡ Ok yes
equals-one_true = refl

equals-false_zero : equals_row (no ∷ plus 0 ∷ []) ≡ Ok yes
equals-false_zero = refl

equals-zero_false : equals_row (plus 0 ∷ no ∷ []) ≡ Ok yes
equals-zero_false = refl

equals-true_two : equals_row (yes ∷ plus 2 ∷ []) ≡ Ok no
equals-true_two = refl

equals-two_true : equals_row (plus 2 ∷ yes ∷ []) ≡ Ok no
equals-two_true = refl

equals-true_zero : equals_row (yes ∷ plus 0 ∷ []) ≡ Ok no
equals-true_zero = refl

equals-minus_one_true : equals_row (minus 1 ∷ yes ∷ []) ≡ Ok no
equals-minus_one_true = refl

equals-truths : equals_row (yes ∷ yes ∷ []) ≡ Ok yes
equals-truths = refl

equals-truths_differ : equals_row (yes ∷ no ∷ []) ≡ Ok no
equals-truths_differ = refl

equals-nulls : equals_row (null ∷ null ∷ []) ≡ Ok yes
equals-nulls = refl

equals-null_false : equals_row (null ∷ no ∷ []) ≡ Ok no
equals-null_false = refl

equals-null_zero : equals_row (null ∷ plus 0 ∷ []) ≡ Ok no
equals-null_zero = refl

equals-null_empty : equals_row (null ∷ word "" ∷ []) ≡ Ok no
equals-null_empty = refl

equals-text_number : equals_row (word "1" ∷ plus 1 ∷ []) ≡ Ok no
equals-text_number = refl

equals-text_truth : equals_row (word "true" ∷ yes ∷ []) ≡ Ok no
equals-text_truth = refl

equals-list_number : equals_row (items (plus 1 ∷ []) ∷ plus 1 ∷ []) ≡ Ok no
equals-list_number = refl

equals-list_object : equals_row (items [] ∷ fields [] ∷ []) ≡ Ok no
equals-list_object = refl

equals-lists : equals_row (items (plus 1 ∷ word "a" ∷ null ∷ []) ∷ items (plus 1 ∷ word "a" ∷ null ∷ []) ∷ []) ≡ Ok yes
equals-lists = refl

equals-list_order : equals_row (items (plus 1 ∷ plus 2 ∷ []) ∷ items (plus 2 ∷ plus 1 ∷ []) ∷ []) ≡ Ok no
equals-list_order = refl

equals-list_front : equals_row (items (plus 1 ∷ []) ∷ items (plus 1 ∷ plus 2 ∷ []) ∷ []) ≡ Ok no
equals-list_front = refl

equals-inside : equals_row (items (yes ∷ []) ∷ items (plus 1 ∷ []) ∷ []) ≡ Ok no
equals-inside = refl

equals-objects : equals_row (fields ((codes "a", plus 1) ∷ []) ∷ fields ((codes "a", plus 1) ∷ []) ∷ []) ≡ Ok yes
equals-objects = refl

equals-member_name : equals_row (fields ((codes "a", plus 1) ∷ []) ∷ fields ((codes "A", plus 1) ∷ []) ∷ []) ≡ Ok no
equals-member_name = refl

equals-member_value : equals_row (fields ((codes "a", plus 1) ∷ []) ∷ fields ((codes "a", plus 2) ∷ []) ∷ []) ≡ Ok no
equals-member_value = refl

equals-member_inside : equals_row (fields ((codes "a", no) ∷ []) ∷ fields ((codes "a", plus 0) ∷ []) ∷ []) ≡ Ok no
equals-member_inside = refl

-- greater
greater-above : greater_row (plus 10 ∷ plus 5 ∷ []) ≡ Ok yes
greater-above = refl

greater-tie : greater_row (plus 5 ∷ plus 5 ∷ []) ≡ Ok no
greater-tie = refl

greater-below : greater_row (minus 1 ∷ plus 0 ∷ []) ≡ Ok no
greater-below = refl

greater-edges : greater_row (least ∷ greatest ∷ []) ≡ Ok no
greater-edges = refl

greater-bytes : greater_row (word "a" ∷ word "Z" ∷ []) ≡ Ok yes
greater-bytes = refl

greater-front : greater_row (word "a" ∷ word "ab" ∷ []) ≡ Ok no
greater-front = refl

greater-texts_tie : greater_row (word "" ∷ word "" ∷ []) ≡ Ok no
greater-texts_tie = refl

greater-two_bytes : greater_row (text (195 ∷ 169 ∷ []) ∷ word "z" ∷ []) ≡ Ok yes
greater-two_bytes = refl

greater-number_text : greater_row (plus 1 ∷ word "a" ∷ []) ≡ Err (EvalFault.WrongType Fun.Greater 2)
greater-number_text = refl

greater-text_number : greater_row (word "1" ∷ plus 1 ∷ []) ≡ Err (EvalFault.WrongType Fun.Greater 2)
greater-text_number = refl

greater-truth : greater_row (yes ∷ plus 1 ∷ []) ≡ Err (EvalFault.WrongType Fun.Greater 1)
greater-truth = refl

greater-null : greater_row (null ∷ null ∷ []) ≡ Err (EvalFault.WrongType Fun.Greater 1)
greater-null = refl

greater-list : greater_row (items [] ∷ items [] ∷ []) ≡ Err (EvalFault.WrongType Fun.Greater 1)
greater-list = refl

-- greaterOrEquals
greater_or_equals-above : greater_or_equals_row (plus 10 ∷ plus 5 ∷ []) ≡ Ok yes
greater_or_equals-above = refl

greater_or_equals-tie : greater_or_equals_row (plus 5 ∷ plus 5 ∷ []) ≡ Ok yes
greater_or_equals-tie = refl

greater_or_equals-below : greater_or_equals_row (minus 1 ∷ plus 0 ∷ []) ≡ Ok no
greater_or_equals-below = refl

greater_or_equals-edges : greater_or_equals_row (least ∷ greatest ∷ []) ≡ Ok no
greater_or_equals-edges = refl

greater_or_equals-bytes : greater_or_equals_row (word "a" ∷ word "Z" ∷ []) ≡ Ok yes
greater_or_equals-bytes = refl

greater_or_equals-front : greater_or_equals_row (word "a" ∷ word "ab" ∷ []) ≡ Ok no
greater_or_equals-front = refl

greater_or_equals-texts_tie : greater_or_equals_row (word "" ∷ word "" ∷ []) ≡ Ok yes
greater_or_equals-texts_tie = refl

greater_or_equals-two_bytes : greater_or_equals_row (text (195 ∷ 169 ∷ []) ∷ word "z" ∷ []) ≡ Ok yes
greater_or_equals-two_bytes = refl

greater_or_equals-number_text : greater_or_equals_row (plus 1 ∷ word "a" ∷ []) ≡ Err (EvalFault.WrongType Fun.GreaterOrEquals 2)
greater_or_equals-number_text = refl

greater_or_equals-text_number : greater_or_equals_row (word "1" ∷ plus 1 ∷ []) ≡ Err (EvalFault.WrongType Fun.GreaterOrEquals 2)
greater_or_equals-text_number = refl

greater_or_equals-truth : greater_or_equals_row (yes ∷ plus 1 ∷ []) ≡ Err (EvalFault.WrongType Fun.GreaterOrEquals 1)
greater_or_equals-truth = refl

greater_or_equals-null : greater_or_equals_row (null ∷ null ∷ []) ≡ Err (EvalFault.WrongType Fun.GreaterOrEquals 1)
greater_or_equals-null = refl

greater_or_equals-list : greater_or_equals_row (items [] ∷ items [] ∷ []) ≡ Err (EvalFault.WrongType Fun.GreaterOrEquals 1)
greater_or_equals-list = refl

-- less
less-above : less_row (plus 10 ∷ plus 5 ∷ []) ≡ Ok no
less-above = refl

less-tie : less_row (plus 5 ∷ plus 5 ∷ []) ≡ Ok no
less-tie = refl

less-below : less_row (minus 1 ∷ plus 0 ∷ []) ≡ Ok yes
less-below = refl

less-edges : less_row (least ∷ greatest ∷ []) ≡ Ok yes
less-edges = refl

less-bytes : less_row (word "a" ∷ word "Z" ∷ []) ≡ Ok no
less-bytes = refl

less-front : less_row (word "a" ∷ word "ab" ∷ []) ≡ Ok yes
less-front = refl

less-texts_tie : less_row (word "" ∷ word "" ∷ []) ≡ Ok no
less-texts_tie = refl

less-two_bytes : less_row (text (195 ∷ 169 ∷ []) ∷ word "z" ∷ []) ≡ Ok no
less-two_bytes = refl

less-number_text : less_row (plus 1 ∷ word "a" ∷ []) ≡ Err (EvalFault.WrongType Fun.Less 2)
less-number_text = refl

less-text_number : less_row (word "1" ∷ plus 1 ∷ []) ≡ Err (EvalFault.WrongType Fun.Less 2)
less-text_number = refl

less-truth : less_row (yes ∷ plus 1 ∷ []) ≡ Err (EvalFault.WrongType Fun.Less 1)
less-truth = refl

less-null : less_row (null ∷ null ∷ []) ≡ Err (EvalFault.WrongType Fun.Less 1)
less-null = refl

less-list : less_row (items [] ∷ items [] ∷ []) ≡ Err (EvalFault.WrongType Fun.Less 1)
less-list = refl

-- lessOrEquals
less_or_equals-above : less_or_equals_row (plus 10 ∷ plus 5 ∷ []) ≡ Ok no
less_or_equals-above = refl

less_or_equals-tie : less_or_equals_row (plus 5 ∷ plus 5 ∷ []) ≡ Ok yes
less_or_equals-tie = refl

less_or_equals-below : less_or_equals_row (minus 1 ∷ plus 0 ∷ []) ≡ Ok yes
less_or_equals-below = refl

less_or_equals-edges : less_or_equals_row (least ∷ greatest ∷ []) ≡ Ok yes
less_or_equals-edges = refl

less_or_equals-bytes : less_or_equals_row (word "a" ∷ word "Z" ∷ []) ≡ Ok no
less_or_equals-bytes = refl

less_or_equals-front : less_or_equals_row (word "a" ∷ word "ab" ∷ []) ≡ Ok yes
less_or_equals-front = refl

less_or_equals-texts_tie : less_or_equals_row (word "" ∷ word "" ∷ []) ≡ Ok yes
less_or_equals-texts_tie = refl

less_or_equals-two_bytes : less_or_equals_row (text (195 ∷ 169 ∷ []) ∷ word "z" ∷ []) ≡ Ok no
less_or_equals-two_bytes = refl

less_or_equals-number_text : less_or_equals_row (plus 1 ∷ word "a" ∷ []) ≡ Err (EvalFault.WrongType Fun.LessOrEquals 2)
less_or_equals-number_text = refl

less_or_equals-text_number : less_or_equals_row (word "1" ∷ plus 1 ∷ []) ≡ Err (EvalFault.WrongType Fun.LessOrEquals 2)
less_or_equals-text_number = refl

less_or_equals-truth : less_or_equals_row (yes ∷ plus 1 ∷ []) ≡ Err (EvalFault.WrongType Fun.LessOrEquals 1)
less_or_equals-truth = refl

less_or_equals-null : less_or_equals_row (null ∷ null ∷ []) ≡ Err (EvalFault.WrongType Fun.LessOrEquals 1)
less_or_equals-null = refl

less_or_equals-list : less_or_equals_row (items [] ∷ items [] ∷ []) ≡ Err (EvalFault.WrongType Fun.LessOrEquals 1)
less_or_equals-list = refl

-- not
not-true : not_row (yes ∷ []) ≡ Ok no
not-true = refl

not-false : not_row (no ∷ []) ≡ Ok yes
not-false = refl

not-number : not_row (plus 1 ∷ []) ≡ Err (EvalFault.WrongType Fun.Not 1)
not-number = refl

not-text : not_row (word "true" ∷ []) ≡ Err (EvalFault.WrongType Fun.Not 1)
not-text = refl

not-null : not_row (null ∷ []) ≡ Err (EvalFault.WrongType Fun.Not 1)
not-null = refl

-- a truth value always fits
truth-fits : (b : Bool) → bounded (boolean b) ≡ Ok (boolean b)
truth-fits b = refl
