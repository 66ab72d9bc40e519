-- Rows of the functions int, bool and isInt.
use Rattle.std.proofs.Common.{◌≡◌, refl, [], ◌∷◌, Ok, Err}
use Rattle.wf_fn_math.specs.Conversion.{int_row, bool_row, is_int_row}
use Rattle.wf_val.proofs.RowValues.{yes, no, plus, minus, greatest, least, word, items, fields}
use Rattle.wf_val.specs.ValueTree.{null, text}
use Rattle.wf_val.specs.declared.fault.EvalFault.{EvalFault}
use Rattle.wf_val.specs.declared.function.Fun.{Fun}

-- int
int-number : int_row (minus 5 ∷ []) ≡ Ok (minus 5)
int-number = refl

int-example : int_row (word "10" ∷ []) ≡ Ok (plus 10)
int-example = refl

int-leading_zeros : int_row (word "-007" ∷ []) ≡ Ok (minus 7)
int-leading_zeros = refl

int-zero : int_row (word "0" ∷ []) ≡ Ok (plus 0)
int-zero = refl

int-minus_zero : int_row (word "-0" ∷ []) ≡ Ok (plus 0)
int-minus_zero = refl

int-greatest : int_row (word "9223372036854775807" ∷ []) ≡ Ok greatest
int-greatest = refl

int-least : int_row (word "-9223372036854775808" ∷ []) ≡ Ok least
int-least = refl

int-long_zero : int_row (word "00000000000000000000001" ∷ []) ≡ Ok (plus 1)
int-long_zero = refl

int-past : int_row (word "9223372036854775808" ∷ []) ≡ Err (EvalFault.BadText Fun.Int)
int-past = refl

int-past_below : int_row (word "-9223372036854775809" ∷ []) ≡ Err (EvalFault.BadText Fun.Int)
int-past_below = refl

int-plus : int_row (word "+5" ∷ []) ≡ Err (EvalFault.BadText Fun.Int)
int-plus = refl

int-minus_plus : int_row (word "-+5" ∷ []) ≡ Err (EvalFault.BadText Fun.Int)
int-minus_plus = refl

int-two_minus : int_row (word "--5" ∷ []) ≡ Err (EvalFault.BadText Fun.Int)
int-two_minus = refl

int-minus_alone : int_row (word "-" ∷ []) ≡ Err (EvalFault.BadText Fun.Int)
int-minus_alone = refl

int-empty : int_row (word "" ∷ []) ≡ Err (EvalFault.BadText Fun.Int)
int-empty = refl

int-blank_before : int_row (word " 1" ∷ []) ≡ Err (EvalFault.BadText Fun.Int)
int-blank_before = refl

int-blank_behind : int_row (word "1 " ∷ []) ≡ Err (EvalFault.BadText Fun.Int)
int-blank_behind = refl

int-fraction : int_row (word "1.0" ∷ []) ≡ Err (EvalFault.BadText Fun.Int)
int-fraction = refl

int-exponent : int_row (word "1e3" ∷ []) ≡ Err (EvalFault.BadText Fun.Int)
int-exponent = refl

int-letter : int_row (word "1f" ∷ []) ≡ Err (EvalFault.BadText Fun.Int)
int-letter = refl

int-separator : int_row (word "1_000" ∷ []) ≡ Err (EvalFault.BadText Fun.Int)
int-separator = refl

int-wide_digit : int_row (text (239 ∷ 188 ∷ 145 ∷ []) ∷ []) ≡ Err (EvalFault.BadText Fun.Int)
int-wide_digit = refl

int-truth : int_row (yes ∷ []) ≡ Err (EvalFault.WrongType Fun.Int 1)
int-truth = refl

int-null : int_row (null ∷ []) ≡ Err (EvalFault.WrongType Fun.Int 1)
int-null = refl

int-list : int_row (items (plus 1 ∷ []) ∷ []) ≡ Err (EvalFault.WrongType Fun.Int 1)
int-list = refl

-- bool
bool-true : bool_row (yes ∷ []) ≡ Ok yes
bool-true = refl

bool-false : bool_row (no ∷ []) ≡ Ok no
bool-false = refl

bool-zero : bool_row (plus 0 ∷ []) ≡ Ok no
bool-zero = refl

bool-one : bool_row (plus 1 ∷ []) ≡ Ok yes
bool-one = refl

bool-below : bool_row (minus 1 ∷ []) ≡ Ok yes
bool-below = refl

bool-least : bool_row (least ∷ []) ≡ Ok yes
bool-least = refl

bool-text_true : bool_row (word "true" ∷ []) ≡ Ok yes
bool-text_true = refl

bool-text_false : bool_row (word "false" ∷ []) ≡ Ok no
bool-text_false = refl

bool-any_case : bool_row (word "tRUe" ∷ []) ≡ Ok yes
bool-any_case = refl

bool-any_case_false : bool_row (word "FALSE" ∷ []) ≡ Ok no
bool-any_case_false = refl

bool-digit : bool_row (word "1" ∷ []) ≡ Err (EvalFault.BadText Fun.Bool)
bool-digit = refl

bool-empty : bool_row (word "" ∷ []) ≡ Err (EvalFault.BadText Fun.Bool)
bool-empty = refl

bool-blank : bool_row (word "true " ∷ []) ≡ Err (EvalFault.BadText Fun.Bool)
bool-blank = refl

bool-longer : bool_row (word "falsehood" ∷ []) ≡ Err (EvalFault.BadText Fun.Bool)
bool-longer = refl

bool-long_s : bool_row (text (102 ∷ 97 ∷ 108 ∷ 197 ∷ 191 ∷ 101 ∷ []) ∷ []) ≡ Err (EvalFault.BadText Fun.Bool)
bool-long_s = refl

bool-null : bool_row (null ∷ []) ≡ Err (EvalFault.WrongType Fun.Bool 1)
bool-null = refl

bool-list : bool_row (items [] ∷ []) ≡ Err (EvalFault.WrongType Fun.Bool 1)
bool-list = refl

bool-object : bool_row (fields [] ∷ []) ≡ Err (EvalFault.WrongType Fun.Bool 1)
bool-object = refl

-- isInt
is_int-example : is_int_row (word "10" ∷ []) ≡ Ok yes
is_int-example = refl

is_int-fraction : is_int_row (word "10.0" ∷ []) ≡ Ok no
is_int-fraction = refl

is_int-minus_zero : is_int_row (word "-0" ∷ []) ≡ Ok yes
is_int-minus_zero = refl

is_int-greatest : is_int_row (word "9223372036854775807" ∷ []) ≡ Ok yes
is_int-greatest = refl

is_int-past : is_int_row (word "9223372036854775808" ∷ []) ≡ Ok no
is_int-past = refl

is_int-least : is_int_row (word "-9223372036854775808" ∷ []) ≡ Ok yes
is_int-least = refl

is_int-past_below : is_int_row (word "-9223372036854775809" ∷ []) ≡ Ok no
is_int-past_below = refl

is_int-plus : is_int_row (word "+5" ∷ []) ≡ Ok no
is_int-plus = refl

is_int-empty : is_int_row (word "" ∷ []) ≡ Ok no
is_int-empty = refl

is_int-blank : is_int_row (word " 1" ∷ []) ≡ Ok no
is_int-blank = refl

is_int-number : is_int_row (plus 5 ∷ []) ≡ Err (EvalFault.WrongType Fun.IsInt 1)
is_int-number = refl

is_int-truth : is_int_row (yes ∷ []) ≡ Err (EvalFault.WrongType Fun.IsInt 1)
is_int-truth = refl

is_int-null : is_int_row (null ∷ []) ≡ Err (EvalFault.WrongType Fun.IsInt 1)
is_int-null = refl
