-- Rows of the functions min and max.
use Rattle.std.proofs.Common.{◌≡◌, refl, [], ◌∷◌, Ok, Err}
use Rattle.wf_fn_math.specs.Extremes.{min_row, max_row}
use Rattle.wf_val.proofs.RowValues.{yes, plus, minus, greatest, least, word, items, fields}
use Rattle.wf_val.specs.ValueTree.{null}
use Rattle.wf_val.specs.declared.fault.EvalFault.{EvalFault}
use Rattle.wf_val.specs.declared.function.Fun.{Fun}

-- min
min-example : min_row (plus 2 ∷ minus 5 ∷ plus 3 ∷ []) ≡ Ok (minus 5)
min-example = refl

min-list : min_row (items (plus 2 ∷ minus 5 ∷ plus 3 ∷ []) ∷ []) ≡ Ok (minus 5)
min-list = refl

min-last : min_row (items (plus 0 ∷ plus 4 ∷ minus 9 ∷ []) ∷ []) ≡ Ok (minus 9)
min-last = refl

min-only : min_row (plus 7 ∷ []) ≡ Ok (plus 7)
min-only = refl

min-only_item : min_row (items (plus 7 ∷ []) ∷ []) ≡ Ok (plus 7)
min-only_item = refl

min-tie : min_row (plus 4 ∷ plus 4 ∷ []) ≡ Ok (plus 4)
min-tie = refl

min-edges : min_row (greatest ∷ plus 0 ∷ least ∷ []) ≡ Ok least
min-edges = refl

min-empty : min_row (items [] ∷ []) ≡ Err (EvalFault.Range Fun.Min)
min-empty = refl

min-item : min_row (items (plus 2 ∷ plus 3 ∷ null ∷ []) ∷ []) ≡ Err (EvalFault.WrongType Fun.Min 1)
min-item = refl

min-item_list : min_row (items (items (plus 1 ∷ []) ∷ []) ∷ []) ≡ Err (EvalFault.WrongType Fun.Min 1)
min-item_list = refl

min-only_other : min_row (word "1" ∷ []) ≡ Err (EvalFault.WrongType Fun.Min 1)
min-only_other = refl

min-object : min_row (fields [] ∷ []) ≡ Err (EvalFault.WrongType Fun.Min 1)
min-object = refl

min-argument : min_row (plus 2 ∷ plus 3 ∷ yes ∷ []) ≡ Err (EvalFault.WrongType Fun.Min 3)
min-argument = refl

min-leftmost : min_row (plus 2 ∷ null ∷ word "x" ∷ []) ≡ Err (EvalFault.WrongType Fun.Min 2)
min-leftmost = refl

min-list_and_more : min_row (items (plus 1 ∷ []) ∷ plus 2 ∷ []) ≡ Err (EvalFault.WrongType Fun.Min 1)
min-list_and_more = refl

min-list_behind : min_row (plus 1 ∷ items (plus 2 ∷ []) ∷ []) ≡ Err (EvalFault.WrongType Fun.Min 2)
min-list_behind = refl

min-empty_and_more : min_row (items [] ∷ plus 2 ∷ []) ≡ Err (EvalFault.WrongType Fun.Min 1)
min-empty_and_more = refl

-- max
max-example : max_row (plus 2 ∷ minus 5 ∷ plus 3 ∷ []) ≡ Ok (plus 3)
max-example = refl

max-list : max_row (items (plus 2 ∷ minus 5 ∷ plus 3 ∷ []) ∷ []) ≡ Ok (plus 3)
max-list = refl

max-last : max_row (items (plus 0 ∷ plus 4 ∷ plus 9 ∷ []) ∷ []) ≡ Ok (plus 9)
max-last = refl

max-only : max_row (plus 7 ∷ []) ≡ Ok (plus 7)
max-only = refl

max-only_item : max_row (items (plus 7 ∷ []) ∷ []) ≡ Ok (plus 7)
max-only_item = refl

max-tie : max_row (plus 4 ∷ plus 4 ∷ []) ≡ Ok (plus 4)
max-tie = refl

max-edges : max_row (greatest ∷ plus 0 ∷ least ∷ []) ≡ Ok greatest
max-edges = refl

max-empty : max_row (items [] ∷ []) ≡ Err (EvalFault.Range Fun.Max)
max-empty = refl

max-item : max_row (items (plus 2 ∷ plus 3 ∷ null ∷ []) ∷ []) ≡ Err (EvalFault.WrongType Fun.Max 1)
max-item = refl

max-item_list : max_row (items (items (plus 1 ∷ []) ∷ []) ∷ []) ≡ Err (EvalFault.WrongType Fun.Max 1)
max-item_list = refl

max-only_other : max_row (word "1" ∷ []) ≡ Err (EvalFault.WrongType Fun.Max 1)
max-only_other = refl

max-object : max_row (fields [] ∷ []) ≡ Err (EvalFault.WrongType Fun.Max 1)
max-object = refl

max-argument : max_row (plus 2 ∷ plus 3 ∷ yes ∷ []) ≡ Err (EvalFault.WrongType Fun.Max 3)
max-argument = refl

max-leftmost : max_row (plus 2 ∷ null ∷ word "x" ∷ []) ≡ Err (EvalFault.WrongType Fun.Max 2)
max-leftmost = refl

max-list_and_more : max_row (items (plus 1 ∷ []) ∷ plus 2 ∷ []) ≡ Err (EvalFault.WrongType Fun.Max 1)
max-list_and_more = refl

max-list_behind : max_row (plus 1 ∷ items (plus 2 ∷ []) ∷ []) ≡ Err (EvalFault.WrongType Fun.Max 2)
max-list_behind = refl

max-empty_and_more : max_row (items [] ∷ plus 2 ∷ []) ≡ Err (EvalFault.WrongType Fun.Max 1)
max-empty_and_more = refl
