-- Conversion to numbers and truth values (Workflow Definition Language, conversion functions int, bool and isInt).
use Rattle.std.specs.Prelude.{ℕ, ℤ, pos, Bool, true, false, not, ◌&&◌, List, Option, Some, None, Ok, Err, is_some, length, drop, nat_lt}
use Rattle.std.specs.Prelude.{slice_get, codes, if◌then◌else◌}
use Rattle.std.specs.Ordering.{int_eq}
use Rattle.std.specs.Str.{all_ascii_digits, str_eq_ignore_ascii_case}
use Rattle.std.specs.Str.Parse.{starts_with_minus, signed_digits_value}
use Rattle.wf_val.specs.Arguments.{Answer, given, text_at, wrong_type, fits_i64}
use Rattle.wf_val.specs.ValueTree.{ValueTree, boolean, number, text}
use Rattle.wf_val.specs.declared.fault.EvalFault.{EvalFault}
use Rattle.wf_val.specs.declared.function.Fun.{Fun}

-- a text without a minus in front
abbrev pub without_minus : List ℕ → List ℕ
without_minus s = if starts_with_minus s then drop 1 s else s

-- a text writes a number as digits `0` to `9`, one or more, behind a minus or behind nothing
abbrev pub is_written_number : List ℕ → Bool
is_written_number s = nat_lt 0 (length (without_minus s)) && all_ascii_digits (without_minus s)

-- the whole number of 64 bits that a text writes
abbrev pub whole_number : List ℕ → Option ℤ
whole_number s = if (is_written_number s && fits_i64 (signed_digits_value 10 s)) then Some (signed_digits_value 10 s) else None

abbrev pub number_or_bad : Option ℤ → Answer
number_or_bad (Some n) = Ok (number n)
number_or_bad None = Err (EvalFault.BadText Fun.Int)

abbrev pub int_of : Option ValueTree → Answer
int_of (Some (number n)) = Ok (number n)
int_of (Some (text s)) = number_or_bad (whole_number s)
int_of t = Err (wrong_type Fun.Int 0)

-- a number is itself, and a text the number that it writes
abbrev pub int_row : List ValueTree → Answer
int_row ts = int_of (slice_get ts 0)

-- the truth value that a text names; the case of ASCII letters doesn't count
abbrev pub named_truth : List ℕ → Answer
named_truth s = if str_eq_ignore_ascii_case s (codes "true") then Ok (boolean true) else (if str_eq_ignore_ascii_case s
    (codes "false") then Ok (boolean false) else Err (EvalFault.BadText Fun.Bool))

abbrev pub bool_of : Option ValueTree → Answer
bool_of (Some (boolean b)) = Ok (boolean b)
bool_of (Some (number n)) = Ok (boolean (not (int_eq n (pos 0))))
bool_of (Some (text s)) = named_truth s
bool_of t = Err (wrong_type Fun.Bool 0)

-- a truth value is itself, 0 is false and every other number true, and a text is the truth value that it
-- names, if it names one; all else is of the wrong type
abbrev pub bool_row : List ValueTree → Answer
bool_row ts = bool_of (slice_get ts 0)

-- whether `int` would give a number
abbrev pub is_int_row : List ValueTree → Answer
is_int_row ts = given (text_at Fun.IsInt ts 0) (λ s. Ok (boolean (is_some (whole_number s))))
