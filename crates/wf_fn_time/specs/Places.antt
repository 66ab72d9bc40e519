-- Where a moment stands (Workflow Definition Language, date and time functions dayOfMonth, dayOfYear, dayOfWeek and ticks).
use Rattle.std.specs.Prelude.{ℕ, ◌/◌, pos, List, Ok}
use Rattle.wf_val.specs.Arguments.{Answer, given}
use Rattle.wf_val.specs.ValueTree.{ValueTree, number}
use Rattle.wf_val.specs.declared.function.Fun.{Fun}
use Rattle.wf_fn_time.specs.Calendar.{day_at, place_in_year, weekday}
use Rattle.wf_fn_time.specs.Moments.{ticks_a_day}
use Rattle.wf_fn_time.specs.Times.{moment_at}

abbrev pub number_of_moment : Fun → (ℕ → ℕ) → List ValueTree → Answer
number_of_moment f place ts = given (moment_at f ts) (λ t. Ok (number (pos (place t))))

-- the days of the month and of the year count from 1
abbrev pub day_of_month_row : List ValueTree → Answer
day_of_month_row = number_of_moment Fun.DayOfMonth (λ t. (day_at (t / ticks_a_day)).day)

abbrev pub day_of_year_row : List ValueTree → Answer
day_of_year_row = number_of_moment Fun.DayOfYear (λ t. place_in_year (day_at (t / ticks_a_day)))

-- Sunday is 0
abbrev pub day_of_week_row : List ValueTree → Answer
day_of_week_row = number_of_moment Fun.DayOfWeek (λ t. weekday (t / ticks_a_day))

-- ticks of 100 ns since the start of the year 1
abbrev pub ticks_row : List ValueTree → Answer
ticks_row = number_of_moment Fun.Ticks (λ t. t)
