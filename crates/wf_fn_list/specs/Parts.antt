-- Length and parts of a text or a list; the characters of a text are Unicode scalar values (Workflow Definition
-- Language, collection functions length, first, last, take, skip, reverse and join).
use Rattle.std.specs.Prelude.{ℕ, ◌-◌, ℤ, pos, negsuc, List, Option, Some, None, Result, Ok, Err, length, take, drop, reverse, slice_get}
use Rattle.std.specs.List.{join_by}
use Rattle.std.specs.Str.{chars, encode_utf8_all}
use Rattle.wf_val.specs.Arguments.{Answer, given, text_at, number_at, list_at, wrong_type, bounded}
use Rattle.wf_val.specs.Joined.{text_bytes}
use Rattle.wf_val.specs.ValueTree.{ValueTree, null, number, text, list, trees, items}
use Rattle.wf_val.specs.declared.fault.EvalFault.{EvalFault}
use Rattle.wf_val.specs.declared.function.Fun.{Fun}

-- a function of a text or a list, by what it does with characters, and what with items
abbrev pub of_parts : Fun → (List ℕ → Answer) → (List ValueTree → Answer) → Option ValueTree → Answer
of_parts f on_characters on_items (Some (text s)) = on_characters (chars s)
of_parts f on_characters on_items (Some (list ts)) = on_items (items ts)
of_parts f on_characters on_items t = Err (wrong_type f 0)

-- characters as a text, and items as a list
abbrev pub spelled : List ℕ → ValueTree
spelled cs = text (encode_utf8_all cs)

abbrev pub listed : List ValueTree → ValueTree
listed ts = list (trees ts)

-- how many characters or items there are
abbrev pub length_row : List ValueTree → Answer
length_row ts = of_parts Fun.Length (λ cs. Ok (number (pos (length cs)))) (λ xs. Ok (number (pos (length xs)))) (slice_get ts 0)

-- an item, or null where there is none
abbrev pub item_or_null : Option ValueTree → ValueTree
item_or_null (Some x) = x
item_or_null None = null

-- the first character or item; of an empty text nothing, of an empty list null
abbrev pub first_row : List ValueTree → Answer
first_row ts = of_parts Fun.First (λ cs. bounded (spelled (take 1 cs))) (λ xs. bounded (item_or_null (slice_get xs 0))) (slice_get ts 0)

-- the last, likewise
abbrev pub last_row : List ValueTree → Answer
last_row ts =
    of_parts Fun.Last (λ cs. bounded (spelled (drop (length cs - 1) cs))) (λ xs. bounded (item_or_null (slice_get xs (length xs - 1))))
    (slice_get ts 0)

-- a count; `Range` below 0
abbrev pub count_of : Fun → ℤ → Result ℕ EvalFault
count_of f (pos n) = Ok n
count_of f (negsuc n) = Err (EvalFault.Range f)

-- a function of a text or a list and a number; its first argument is judged before the second, and what the number is good
-- for after both
abbrev pub with_number : Fun → (ℤ → Result ℕ EvalFault) → (ℕ → List ℕ → Answer) → (ℕ → List ValueTree → Answer) → List ValueTree → Answer
with_number f judged on_characters on_items ts = of_parts f
    (λ cs. given (number_at f ts 1) (λ z. given (judged z) (λ n. on_characters n cs)))
    (λ xs. given (number_at f ts 1) (λ z. given (judged z) (λ n. on_items n xs)))
    (slice_get ts 0)

-- the first so many characters or items, or all where there are fewer
abbrev pub take_row : List ValueTree → Answer
take_row = with_number Fun.Take (count_of Fun.Take) (λ n cs. bounded (spelled (take n cs))) (λ n xs. bounded (listed (take n xs)))

-- what is behind them
abbrev pub skip_row : List ValueTree → Answer
skip_row = with_number Fun.Skip (count_of Fun.Skip) (λ n cs. bounded (spelled (drop n cs))) (λ n xs. bounded (listed (drop n xs)))

-- the items from the end
abbrev pub reverse_row : List ValueTree → Answer
reverse_row ts = given (list_at Fun.Reverse ts 0) (λ xs. bounded (listed (reverse xs)))

-- the texts of a list with another between each two; an item that is no text adds nothing
abbrev pub join_row : List ValueTree → Answer
join_row ts =
    given (list_at Fun.Join ts 0) (λ xs. given (text_at Fun.Join ts 1) (λ between. bounded (text (join_by text_bytes between xs))))
