-- Rows of the functions add, sub, mul, div and mod.
use Rattle.std.proofs.Common.{◌≡◌, refl, [], ◌∷◌, Ok, Err}
use Rattle.std.specs.Prelude.{ℤ}
use Rattle.wf_val.specs.Arguments.{bounded}
use Rattle.wf_fn_math.specs.Arithmetic.{add_row, sub_row, mul_row, div_row, mod_row}
use Rattle.wf_val.proofs.RowValues.{yes, no, plus, minus, greatest, least, word, items, fields}
use Rattle.wf_val.specs.ValueTree.{null, number}
use Rattle.wf_val.specs.declared.fault.EvalFault.{EvalFault}
use Rattle.wf_val.specs.declared.function.Fun.{Fun}

-- add
add-example : add_row (plus 1 ∷ plus 2 ∷ []) ≡ Ok (plus 3)
add-example = refl

add-both_below : add_row (minus 3 ∷ minus 4 ∷ []) ≡ Ok (minus 7)
add-both_below = refl

add-greatest : add_row (greatest ∷ plus 0 ∷ []) ≡ Ok greatest
add-greatest = refl

add-least : add_row (minus 9223372036854775807 ∷ minus 1 ∷ []) ≡ Ok least
add-least = refl

add-past : add_row (greatest ∷ plus 1 ∷ []) ≡ Err (EvalFault.Range Fun.Add)
add-past = refl

add-past_below : add_row (least ∷ minus 1 ∷ []) ≡ Err (EvalFault.Range Fun.Add)
add-past_below = refl

add-first : add_row (word "1" ∷ plus 2 ∷ []) ≡ Err (EvalFault.WrongType Fun.Add 1)
add-first = refl

add-second : add_row (plus 1 ∷ word "2" ∷ []) ≡ Err (EvalFault.WrongType Fun.Add 2)
add-second = refl

add-leftmost : add_row (null ∷ yes ∷ []) ≡ Err (EvalFault.WrongType Fun.Add 1)
add-leftmost = refl

add-truth : add_row (plus 1 ∷ yes ∷ []) ≡ Err (EvalFault.WrongType Fun.Add 2)
add-truth = refl

-- sub
sub-example : sub_row (plus 3 ∷ plus 5 ∷ []) ≡ Ok (minus 2)
sub-example = refl

sub-least : sub_row (minus 1 ∷ greatest ∷ []) ≡ Ok least
sub-least = refl

sub-greatest : sub_row (minus 1 ∷ least ∷ []) ≡ Ok greatest
sub-greatest = refl

sub-past : sub_row (plus 0 ∷ least ∷ []) ≡ Err (EvalFault.Range Fun.Sub)
sub-past = refl

sub-past_below : sub_row (least ∷ plus 1 ∷ []) ≡ Err (EvalFault.Range Fun.Sub)
sub-past_below = refl

sub-first : sub_row (null ∷ least ∷ []) ≡ Err (EvalFault.WrongType Fun.Sub 1)
sub-first = refl

sub-second : sub_row (plus 0 ∷ items [] ∷ []) ≡ Err (EvalFault.WrongType Fun.Sub 2)
sub-second = refl

-- mul
mul-example : mul_row (minus 4 ∷ plus 3 ∷ []) ≡ Ok (minus 12)
mul-example = refl

mul-both_below : mul_row (minus 4 ∷ minus 3 ∷ []) ≡ Ok (plus 12)
mul-both_below = refl

mul-zero : mul_row (least ∷ plus 0 ∷ []) ≡ Ok (plus 0)
mul-zero = refl

mul-least : mul_row (plus 4294967296 ∷ minus 2147483648 ∷ []) ≡ Ok least
mul-least = refl

mul-past : mul_row (plus 4294967296 ∷ plus 2147483648 ∷ []) ≡ Err (EvalFault.Range Fun.Mul)
mul-past = refl

mul-past_by_sign : mul_row (least ∷ minus 1 ∷ []) ≡ Err (EvalFault.Range Fun.Mul)
mul-past_by_sign = refl

mul-first : mul_row (no ∷ plus 2 ∷ []) ≡ Err (EvalFault.WrongType Fun.Mul 1)
mul-first = refl

mul-second : mul_row (plus 2 ∷ fields [] ∷ []) ≡ Err (EvalFault.WrongType Fun.Mul 2)
mul-second = refl

-- div: the quotient is cut towards 0
div-example : div_row (plus 11 ∷ plus 5 ∷ []) ≡ Ok (plus 2)
div-example = refl

div-cut_below : div_row (minus 7 ∷ plus 2 ∷ []) ≡ Ok (minus 3)
div-cut_below = refl

div-divisor_below : div_row (plus 7 ∷ minus 2 ∷ []) ≡ Ok (minus 3)
div-divisor_below = refl

div-both_below : div_row (minus 7 ∷ minus 2 ∷ []) ≡ Ok (plus 3)
div-both_below = refl

div-least : div_row (least ∷ plus 1 ∷ []) ≡ Ok least
div-least = refl

div-past : div_row (least ∷ minus 1 ∷ []) ≡ Err (EvalFault.Range Fun.Div)
div-past = refl

div-zero : div_row (plus 1 ∷ plus 0 ∷ []) ≡ Err (EvalFault.Range Fun.Div)
div-zero = refl

div-zero_by_zero : div_row (plus 0 ∷ plus 0 ∷ []) ≡ Err (EvalFault.Range Fun.Div)
div-zero_by_zero = refl

div-first : div_row (word "x" ∷ plus 0 ∷ []) ≡ Err (EvalFault.WrongType Fun.Div 1)
div-first = refl

div-second : div_row (plus 1 ∷ null ∷ []) ≡ Err (EvalFault.WrongType Fun.Div 2)
div-second = refl

-- mod: the rest has the sign of the dividend
mod-example : mod_row (plus 3 ∷ plus 2 ∷ []) ≡ Ok (plus 1)
mod-example = refl

mod-none : mod_row (plus 6 ∷ plus 3 ∷ []) ≡ Ok (plus 0)
mod-none = refl

mod-below : mod_row (minus 7 ∷ plus 2 ∷ []) ≡ Ok (minus 1)
mod-below = refl

mod-divisor_below : mod_row (plus 7 ∷ minus 2 ∷ []) ≡ Ok (plus 1)
mod-divisor_below = refl

mod-both_below : mod_row (minus 7 ∷ minus 2 ∷ []) ≡ Ok (minus 1)
mod-both_below = refl

mod-minus_one : mod_row (least ∷ minus 1 ∷ []) ≡ Ok (plus 0)
mod-minus_one = refl

mod-least : mod_row (greatest ∷ least ∷ []) ≡ Ok greatest
mod-least = refl

mod-zero : mod_row (plus 1 ∷ plus 0 ∷ []) ≡ Err (EvalFault.Range Fun.Mod)
mod-zero = refl

mod-zero_by_zero : mod_row (plus 0 ∷ plus 0 ∷ []) ≡ Err (EvalFault.Range Fun.Mod)
mod-zero_by_zero = refl

mod-first : mod_row (null ∷ plus 0 ∷ []) ≡ Err (EvalFault.WrongType Fun.Mod 1)
mod-first = refl

mod-second : mod_row (plus 1 ∷ word "0" ∷ []) ≡ Err (EvalFault.WrongType Fun.Mod 2)
mod-second = refl

-- a number always fits
number-fits : (n : ℤ) → bounded (number n) ≡ Ok (number n)
number-fits n = refl
