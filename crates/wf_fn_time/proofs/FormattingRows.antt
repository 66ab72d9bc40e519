-- Rows of the functions formatDateTime, startOfDay, startOfHour and startOfMonth, in the first years, whose days are few to count.
use lib.Utf8.{encode}
use Rattle.std.proofs.Common.{◌≡◌, refl, true, [], ◌∷◌, Ok, Err}
use Rattle.std.specs.Str.{chars}
use Rattle.jiff_core.specs.Calendar.{days_of_months}
use Rattle.wf_fn_time.specs.Calendar.{day_at, days_of_first_years}
use Rattle.wf_fn_time.specs.Formatting.{format_date_time_row, start_of_day_row, start_of_hour_row, start_of_month_row}
use Rattle.wf_val.proofs.RowValues.{plus, word}
use Rattle.wf_val.specs.ValueTree.{null, boolean}
use Rattle.wf_val.specs.declared.fault.EvalFault.{EvalFault}
use Rattle.wf_val.specs.declared.function.Fun.{Fun}

format_date_time-default : format_date_time_row (word "0001-01-01T12:00" ∷ []) ≡ Ok (word "0001-01-01T12:00:00.0000000Z")
unfolding chars encode day_at days_of_first_years days_of_months
format_date_time-default = refl

format_date_time-first : format_date_time_row (word "0001-01-01" ∷ word "D" ∷ []) ≡ Ok (word "Monday, January 1, 0001")
unfolding chars encode day_at days_of_first_years days_of_months
format_date_time-first = refl

format_date_time-leap_day : format_date_time_row (word "0004-02-29T23:59:59.5Z" ∷ word "ddd d MMM yyyy HH:mm:ss.f" ∷ [])
    ≡ Ok (word "Sun 29 Feb 0004 23:59:59.5")
unfolding chars encode day_at days_of_first_years days_of_months
format_date_time-leap_day = refl

format_date_time-day_before : format_date_time_row (word "0001-01-02T01:00:00+02:00" ∷ word "r" ∷ [])
    ≡ Ok (word "Mon, 01 Jan 0001 23:00:00 GMT")
unfolding chars encode day_at days_of_first_years days_of_months
format_date_time-day_before = refl

format_date_time-last_of_year : format_date_time_row (word "0001-12-31T23:59:59.9999999Z" ∷ word "o" ∷ [])
    ≡ Ok (word "0001-12-31T23:59:59.9999999Z")
unfolding chars encode day_at days_of_first_years days_of_months
format_date_time-last_of_year = refl

format_date_time-no_timestamp : format_date_time_row (word "noon" ∷ word "o" ∷ []) ≡ Err (EvalFault.BadText Fun.FormatDateTime)
unfolding chars encode day_at days_of_first_years days_of_months
format_date_time-no_timestamp = refl

format_date_time-no_pattern : format_date_time_row (word "0001-01-01" ∷ word "" ∷ []) ≡ Err (EvalFault.BadText Fun.FormatDateTime)
unfolding chars encode day_at days_of_first_years days_of_months
format_date_time-no_pattern = refl

format_date_time-timestamp_first : format_date_time_row (word "noon" ∷ word "" ∷ []) ≡ Err (EvalFault.BadText Fun.FormatDateTime)
unfolding chars encode day_at days_of_first_years days_of_months
format_date_time-timestamp_first = refl

format_date_time-number : format_date_time_row (plus 1 ∷ word "" ∷ []) ≡ Err (EvalFault.WrongType Fun.FormatDateTime 1)
unfolding chars encode day_at days_of_first_years days_of_months
format_date_time-number = refl

format_date_time-pattern_null : format_date_time_row (word "noon" ∷ null ∷ []) ≡ Err (EvalFault.WrongType Fun.FormatDateTime 2)
unfolding chars encode day_at days_of_first_years days_of_months
format_date_time-pattern_null = refl

start_of_day-example : start_of_day_row (word "0001-02-03T04:05:06.7Z" ∷ []) ≡ Ok (word "0001-02-03T00:00:00.0000000Z")
unfolding chars encode day_at days_of_first_years days_of_months
start_of_day-example = refl

start_of_day-of_a_start : start_of_day_row (word "0001-02-03" ∷ word "s" ∷ []) ≡ Ok (word "0001-02-03T00:00:00")
unfolding chars encode day_at days_of_first_years days_of_months
start_of_day-of_a_start = refl

start_of_day-in_utc : start_of_day_row (word "0001-02-03T20:00:00-05:00" ∷ []) ≡ Ok (word "0001-02-04T00:00:00.0000000Z")
unfolding chars encode day_at days_of_first_years days_of_months
start_of_day-in_utc = refl

start_of_day-no_pattern : start_of_day_row (word "0001-02-03" ∷ word "y " ∷ []) ≡ Err (EvalFault.BadText Fun.StartOfDay)
unfolding chars encode day_at days_of_first_years days_of_months
start_of_day-no_pattern = refl

start_of_day-no_timestamp : start_of_day_row (word "0001-02-30" ∷ []) ≡ Err (EvalFault.BadText Fun.StartOfDay)
unfolding chars encode day_at days_of_first_years days_of_months
start_of_day-no_timestamp = refl

start_of_day-truth : start_of_day_row (boolean true ∷ []) ≡ Err (EvalFault.WrongType Fun.StartOfDay 1)
unfolding chars encode day_at days_of_first_years days_of_months
start_of_day-truth = refl

start_of_hour-example : start_of_hour_row (word "0001-02-03T04:05:06.7Z" ∷ []) ≡ Ok (word "0001-02-03T04:00:00.0000000Z")
unfolding chars encode day_at days_of_first_years days_of_months
start_of_hour-example = refl

start_of_hour-last : start_of_hour_row (word "0001-02-03T04:59:59.9999999Z" ∷ word "HH:mm:ss" ∷ []) ≡ Ok (word "04:00:00")
unfolding chars encode day_at days_of_first_years days_of_months
start_of_hour-last = refl

start_of_hour-half_an_hour : start_of_hour_row (word "0001-02-03T04:15:00+00:30" ∷ word "u" ∷ []) ≡ Ok (word "0001-02-03 03:00:00Z")
unfolding chars encode day_at days_of_first_years days_of_months
start_of_hour-half_an_hour = refl

start_of_hour-number_as_pattern : start_of_hour_row (word "0001-02-03" ∷ plus 1 ∷ []) ≡ Err (EvalFault.WrongType Fun.StartOfHour 2)
unfolding chars encode day_at days_of_first_years days_of_months
start_of_hour-number_as_pattern = refl

start_of_month-example : start_of_month_row (word "0004-02-29T04:05:06.7Z" ∷ []) ≡ Ok (word "0004-02-01T00:00:00.0000000Z")
unfolding chars encode day_at days_of_first_years days_of_months
start_of_month-example = refl

start_of_month-first : start_of_month_row (word "0001-01-31T00:00:01Z" ∷ word "s" ∷ []) ≡ Ok (word "0001-01-01T00:00:00")
unfolding chars encode day_at days_of_first_years days_of_months
start_of_month-first = refl

start_of_month-month_before : start_of_month_row (word "0001-02-01T00:00:00+00:01" ∷ word "s" ∷ []) ≡ Ok (word "0001-01-01T00:00:00")
unfolding chars encode day_at days_of_first_years days_of_months
start_of_month-month_before = refl

start_of_month-no_timestamp : start_of_month_row (word "0001-02-31" ∷ word "o" ∷ []) ≡ Err (EvalFault.BadText Fun.StartOfMonth)
unfolding chars encode day_at days_of_first_years days_of_months
start_of_month-no_timestamp = refl
