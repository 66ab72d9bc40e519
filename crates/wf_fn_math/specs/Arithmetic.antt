-- Arithmetic on whole numbers (Workflow Definition Language, math functions add, sub, mul, div and mod).
use Rattle.std.specs.Prelude.{ℤ, pos, ◌+ℤ◌, ◌-ℤ◌, ◌*ℤ◌, List, Ok, Err, int_div, int_rem, if◌then◌else◌}
use Rattle.std.specs.Ordering.{int_eq}
use Rattle.wf_val.specs.Arguments.{Answer, given, number_at, in_range}
use Rattle.wf_val.specs.ValueTree.{ValueTree, number}
use Rattle.wf_val.specs.declared.fault.EvalFault.{EvalFault}
use Rattle.wf_val.specs.declared.function.Fun.{Fun}

-- the function of two numbers: both are judged before it
abbrev pub of_two_numbers : Fun → (ℤ → ℤ → Answer) → List ValueTree → Answer
of_two_numbers f row ts = given (number_at f ts 0) (λ a. given (number_at f ts 1) (λ b. row a b))

-- what comes of a division, but `Range` for a divisor 0
abbrev pub divided : Fun → (ℤ → ℤ → Answer) → ℤ → ℤ → Answer
divided f row a b = if int_eq b (pos 0) then Err (EvalFault.Range f) else row a b

abbrev pub add_row : List ValueTree → Answer
add_row = of_two_numbers Fun.Add (λ a b. in_range Fun.Add (a +ℤ b))

abbrev pub sub_row : List ValueTree → Answer
sub_row = of_two_numbers Fun.Sub (λ a b. in_range Fun.Sub (a -ℤ b))

abbrev pub mul_row : List ValueTree → Answer
mul_row = of_two_numbers Fun.Mul (λ a b. in_range Fun.Mul (a *ℤ b))

-- the quotient, cut towards 0
abbrev pub div_row : List ValueTree → Answer
div_row = of_two_numbers Fun.Div (divided Fun.Div (λ a b. in_range Fun.Div (int_div a b)))

-- what the quotient, cut towards 0, leaves: it has the sign of the dividend
abbrev pub mod_row : List ValueTree → Answer
mod_row = of_two_numbers Fun.Mod (divided Fun.Mod (λ a b. Ok (number (int_rem a b))))
