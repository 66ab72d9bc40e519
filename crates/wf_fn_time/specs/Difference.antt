-- From one moment to another (Workflow Definition Language, date and time function dateDifference; the text is .NET's constant
-- format of a time span).
use Rattle.std.specs.Prelude.{ℕ, ◌-◌, ◌/◌, ◌%◌, List, [], ◌∷◌, ◌++◌, ◌==◌, decimal, nat_lt, if◌then◌else◌}
use Rattle.wf_val.specs.Arguments.{Answer, given, text_at, bounded}
use Rattle.wf_val.specs.ValueTree.{ValueTree, text}
use Rattle.wf_val.specs.declared.function.Fun.{Fun}
use Rattle.wf_fn_time.specs.Moments.{ticks_a_day}
use Rattle.wf_fn_time.specs.Printing.{last_digits}
use Rattle.wf_fn_time.specs.Times.{moment_of}

-- whole days and a point, where there are any
abbrev pub days_printed : ℕ → List ℕ
days_printed days = if days == 0 then [] else decimal days ++ 46 ∷ []

-- a point and seven digits, where there is a fraction of a second
abbrev pub fraction_printed : ℕ → List ℕ
fraction_printed fraction = if fraction == 0 then [] else 46 ∷ last_digits 7 fraction

-- [d.]hh:mm:ss[.fffffff]
abbrev pub span_printed : ℕ → List ℕ
span_printed n =
    days_printed (n / ticks_a_day) ++ last_digits 2 (n / 36000000000 % 24) ++ 58 ∷ [] ++ last_digits 2 (n / 600000000 % 60) ++ 58 ∷ []
    ++ last_digits 2 (n / 10000000 % 60) ++ fraction_printed (n % 10000000)

-- the second moment less the first, with a minus where it is before the first
abbrev pub difference_printed : ℕ → ℕ → List ℕ
difference_printed from to = if nat_lt to from then 45 ∷ [] ++ span_printed (from - to) else span_printed (to - from)

abbrev pub date_difference_row : List ValueTree → Answer
date_difference_row ts =
    given (text_at Fun.DateDifference ts 0) (λ s. given (text_at Fun.DateDifference ts 1) (λ e.
    given (moment_of Fun.DateDifference s) (λ from. given (moment_of Fun.DateDifference e) (λ to.
    bounded (text (difference_printed from to))))))
