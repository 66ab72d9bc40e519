-- A moment printed, and cut back to the start of a unit (Workflow Definition Language, date and time functions formatDateTime,
-- startOfDay, startOfHour and startOfMonth).
use Rattle.std.specs.Prelude.{ℕ, ◌-◌, ◌*◌, ◌/◌, ◌%◌, List}
use Rattle.wf_val.specs.Arguments.{Answer, given}
use Rattle.wf_val.specs.ValueTree.{ValueTree}
use Rattle.wf_val.specs.declared.function.Fun.{Fun}
use Rattle.wf_fn_time.specs.Calendar.{day_at, day_number}
use Rattle.wf_fn_time.specs.Moments.{ticks_a_day}
use Rattle.wf_fn_time.specs.Times.{moment_and_pattern, printed_value}
use Rattle.wf_fn_time.specs.declared.calendar.Day.{Day}

abbrev pub format_date_time_row : List ValueTree → Answer
format_date_time_row ts = given (moment_and_pattern Fun.FormatDateTime ts) (λ r. printed_value r.0 r.1)

-- the start of the day, of the hour, in UTC
abbrev pub day_start : ℕ → ℕ
day_start t = t - t % ticks_a_day

abbrev pub hour_start : ℕ → ℕ
hour_start t = t - t % 36000000000

-- the first day of the month, and where it starts
abbrev pub first_of_month : Day → Day
first_of_month d = record { year = d.year; month = d.month; day = 1 }

abbrev pub month_start : ℕ → ℕ
month_start t = day_number (first_of_month (day_at (t / ticks_a_day))) * ticks_a_day

abbrev pub start_of_day_row : List ValueTree → Answer
start_of_day_row ts = given (moment_and_pattern Fun.StartOfDay ts) (λ r. printed_value (day_start r.0) r.1)

abbrev pub start_of_hour_row : List ValueTree → Answer
start_of_hour_row ts = given (moment_and_pattern Fun.StartOfHour ts) (λ r. printed_value (hour_start r.0) r.1)

abbrev pub start_of_month_row : List ValueTree → Answer
start_of_month_row ts = given (moment_and_pattern Fun.StartOfMonth ts) (λ r. printed_value (month_start r.0) r.1)
