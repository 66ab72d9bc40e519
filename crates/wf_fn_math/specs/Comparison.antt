-- Comparison and logic (Workflow Definition Language, logical comparison functions).
use Rattle.std.specs.Prelude.{ℤ, pos, Bool, cond, not, List, Option, Some, None, Result, Ok, Err, slice_get}
use Rattle.std.specs.Ordering.{is_eq, is_gt, is_ge, is_lt, is_le, int_cmp}
use Rattle.std.specs.declared.cmp.Ordering.{Ordering}
use Rattle.wf_val.specs.Arguments.{Answer, given, number_of, text_of, truth_at, wrong_type}
use Rattle.wf_val.specs.NameOrder.{bytes_cmp}
use Rattle.wf_val.specs.ValueOrder.{order}
use Rattle.wf_val.specs.ValueTree.{ValueTree, boolean, number, text}
use Rattle.wf_val.specs.declared.fault.EvalFault.{EvalFault}
use Rattle.wf_val.specs.declared.function.Fun.{Fun}

-- a truth value as the number that it counts as beside a number
abbrev pub counted : Bool → ℤ
counted b = cond b (pos 1) (pos 0)

-- a value as it counts beside another: a truth value beside a number is 1 or 0, and anything else is itself; inside
-- lists and objects nothing counts as something else
abbrev pub beside : ValueTree → ValueTree → ValueTree
beside (boolean b) (number n) = number (counted b)
beside t other = t

-- two values are equal where each, as it counts beside the other, is the same
abbrev pub are_equal : ValueTree → ValueTree → Bool
are_equal a b = is_eq (order (beside a b) (beside b a))

-- how a first argument stands to a second: the first says whether numbers are compared, or texts by their bytes
abbrev pub compared : Fun → Option ValueTree → Option ValueTree → Result Ordering EvalFault
compared f (Some (number a)) right = given (number_of f 1 right) (λ b. Ok (int_cmp a b))
compared f (Some (text a)) right = given (text_of f 1 right) (λ b. Ok (bytes_cmp a b))
compared f left right = Err (wrong_type f 0)

-- whether the first argument stands to the second as asked
abbrev pub compared_row : Fun → (Ordering → Bool) → List ValueTree → Answer
compared_row f holds ts = given (compared f (slice_get ts 0) (slice_get ts 1)) (λ o. Ok (boolean (holds o)))

abbrev pub equals_of : Option ValueTree → Option ValueTree → Answer
equals_of (Some a) (Some b) = Ok (boolean (are_equal a b))
equals_of (Some a) None = Err (wrong_type Fun.Equals 1)
equals_of None right = Err (wrong_type Fun.Equals 0)

abbrev pub equals_row : List ValueTree → Answer
equals_row ts = equals_of (slice_get ts 0) (slice_get ts 1)

abbrev pub greater_row : List ValueTree → Answer
greater_row = compared_row Fun.Greater is_gt

abbrev pub greater_or_equals_row : List ValueTree → Answer
greater_or_equals_row = compared_row Fun.GreaterOrEquals is_ge

abbrev pub less_row : List ValueTree → Answer
less_row = compared_row Fun.Less is_lt

abbrev pub less_or_equals_row : List ValueTree → Answer
less_or_equals_row = compared_row Fun.LessOrEquals is_le

abbrev pub not_row : List ValueTree → Answer
not_row ts = given (truth_at Fun.Not ts 0) (λ b. Ok (boolean (not b)))
