-- Rows of the functions addDays, addHours, addMinutes, addSeconds, addToTime and subtractFromTime, in the first years.
use lib.Utf8.{encode}
use Rattle.std.proofs.Common.{◌≡◌, refl, true, [], ◌∷◌, Ok, Err}
use Rattle.std.specs.Str.{chars}
use Rattle.jiff_core.specs.Calendar.{days_of_months}
use Rattle.wf_fn_time.specs.Calendar.{day_at, days_of_first_years}
use Rattle.wf_fn_time.specs.Moving.{add_days_row, add_hours_row, add_minutes_row, add_seconds_row, add_to_time_row, subtract_from_time_row}
use Rattle.wf_val.proofs.RowValues.{plus, minus, greatest, least, word}
use Rattle.wf_val.specs.ValueTree.{null, boolean}
use Rattle.wf_val.specs.declared.fault.EvalFault.{EvalFault}
use Rattle.wf_val.specs.declared.function.Fun.{Fun}

add_days-later : add_days_row (word "0003-02-28T01:02:03Z" ∷ plus 1 ∷ []) ≡ Ok (word "0003-03-01T01:02:03.0000000Z")
unfolding chars encode day_at days_of_first_years days_of_months
add_days-later = refl

add_days-leap_day : add_days_row (word "0004-02-28" ∷ plus 1 ∷ []) ≡ Ok (word "0004-02-29T00:00:00.0000000Z")
unfolding chars encode day_at days_of_first_years days_of_months
add_days-leap_day = refl

add_days-earlier : add_days_row (word "0002-01-01" ∷ minus 1 ∷ word "D" ∷ []) ≡ Ok (word "Monday, December 31, 0001")
unfolding chars encode day_at days_of_first_years days_of_months
add_days-earlier = refl

add_days-by_none : add_days_row (word "0001-01-01T00:00+00:00" ∷ plus 0 ∷ []) ≡ Ok (word "0001-01-01T00:00:00.0000000Z")
unfolding chars encode day_at days_of_first_years days_of_months
add_days-by_none = refl

add_days-before_year_1 : add_days_row (word "0001-01-01T23:59:59Z" ∷ minus 1 ∷ []) ≡ Err (EvalFault.Range Fun.AddDays)
unfolding chars encode day_at days_of_first_years days_of_months
add_days-before_year_1 = refl

add_days-behind_year_9999 : add_days_row (word "9999-12-31" ∷ plus 1 ∷ []) ≡ Err (EvalFault.Range Fun.AddDays)
unfolding chars encode day_at days_of_first_years days_of_months
add_days-behind_year_9999 = refl

add_days-greatest : add_days_row (word "0001-01-01" ∷ greatest ∷ []) ≡ Err (EvalFault.Range Fun.AddDays)
unfolding chars encode day_at days_of_first_years days_of_months
add_days-greatest = refl

add_days-least : add_days_row (word "0001-01-01" ∷ least ∷ []) ≡ Err (EvalFault.Range Fun.AddDays)
unfolding chars encode day_at days_of_first_years days_of_months
add_days-least = refl

add_days-pattern_before_range : add_days_row (word "9999-12-31" ∷ plus 1 ∷ word "q" ∷ []) ≡ Err (EvalFault.BadText Fun.AddDays)
unfolding chars encode day_at days_of_first_years days_of_months
add_days-pattern_before_range = refl

add_days-timestamp_before_range : add_days_row (word "0001-02-29" ∷ greatest ∷ []) ≡ Err (EvalFault.BadText Fun.AddDays)
unfolding chars encode day_at days_of_first_years days_of_months
add_days-timestamp_before_range = refl

add_days-pattern_refused : add_days_row (word "0001-01-01" ∷ plus 1 ∷ word "yyyyy" ∷ []) ≡ Err (EvalFault.BadText Fun.AddDays)
unfolding chars encode day_at days_of_first_years days_of_months
add_days-pattern_refused = refl

add_days-text_as_number : add_days_row (word "x" ∷ word "1" ∷ word "q" ∷ []) ≡ Err (EvalFault.WrongType Fun.AddDays 2)
unfolding chars encode day_at days_of_first_years days_of_months
add_days-text_as_number = refl

add_days-null_as_pattern : add_days_row (word "x" ∷ plus 1 ∷ null ∷ []) ≡ Err (EvalFault.WrongType Fun.AddDays 3)
unfolding chars encode day_at days_of_first_years days_of_months
add_days-null_as_pattern = refl

add_hours-later : add_hours_row (word "0001-01-01T23:30Z" ∷ plus 1 ∷ []) ≡ Ok (word "0001-01-02T00:30:00.0000000Z")
unfolding chars encode day_at days_of_first_years days_of_months
add_hours-later = refl

add_hours-earlier : add_hours_row (word "0001-01-03T00:30Z" ∷ minus 25 ∷ word "s" ∷ []) ≡ Ok (word "0001-01-01T23:30:00")
unfolding chars encode day_at days_of_first_years days_of_months
add_hours-earlier = refl

add_hours-greatest : add_hours_row (word "0001-01-01" ∷ greatest ∷ []) ≡ Err (EvalFault.Range Fun.AddHours)
unfolding chars encode day_at days_of_first_years days_of_months
add_hours-greatest = refl

add_hours-no_timestamp : add_hours_row (word "x" ∷ plus 1 ∷ []) ≡ Err (EvalFault.BadText Fun.AddHours)
unfolding chars encode day_at days_of_first_years days_of_months
add_hours-no_timestamp = refl

add_minutes-later : add_minutes_row (word "0001-01-01T23:59Z" ∷ plus 1 ∷ []) ≡ Ok (word "0001-01-02T00:00:00.0000000Z")
unfolding chars encode day_at days_of_first_years days_of_months
add_minutes-later = refl

add_minutes-earlier : add_minutes_row (word "0001-01-02" ∷ minus 1 ∷ word "s" ∷ []) ≡ Ok (word "0001-01-01T23:59:00")
unfolding chars encode day_at days_of_first_years days_of_months
add_minutes-earlier = refl

add_minutes-least : add_minutes_row (word "0001-01-01" ∷ least ∷ []) ≡ Err (EvalFault.Range Fun.AddMinutes)
unfolding chars encode day_at days_of_first_years days_of_months
add_minutes-least = refl

add_minutes-pattern_refused : add_minutes_row (word "0001-01-01" ∷ plus 1 ∷ word "h:m:s z" ∷ []) ≡ Err (EvalFault.BadText Fun.AddMinutes)
unfolding chars encode day_at days_of_first_years days_of_months
add_minutes-pattern_refused = refl

add_seconds-later : add_seconds_row (word "0001-12-31T23:59:59.1Z" ∷ plus 1 ∷ []) ≡ Ok (word "0002-01-01T00:00:00.1000000Z")
unfolding chars encode day_at days_of_first_years days_of_months
add_seconds-later = refl

add_seconds-earlier : add_seconds_row (word "0001-01-01T00:00:01Z" ∷ minus 1 ∷ word "s" ∷ []) ≡ Ok (word "0001-01-01T00:00:00")
unfolding chars encode day_at days_of_first_years days_of_months
add_seconds-earlier = refl

add_seconds-one_too_early : add_seconds_row (word "0001-01-01T00:00:00.9999999Z" ∷ minus 1 ∷ []) ≡ Err (EvalFault.Range Fun.AddSeconds)
unfolding chars encode day_at days_of_first_years days_of_months
add_seconds-one_too_early = refl

add_seconds-last : add_seconds_row (word "9999-12-31T23:59:59Z" ∷ plus 1 ∷ []) ≡ Err (EvalFault.Range Fun.AddSeconds)
unfolding chars encode day_at days_of_first_years days_of_months
add_seconds-last = refl

add_seconds-truth : add_seconds_row (word "0001-01-01" ∷ boolean true ∷ []) ≡ Err (EvalFault.WrongType Fun.AddSeconds 2)
unfolding chars encode day_at days_of_first_years days_of_months
add_seconds-truth = refl

add_to_time-second : add_to_time_row (word "0001-01-01" ∷ plus 90 ∷ word "Second" ∷ []) ≡ Ok (word "0001-01-01T00:01:30.0000000Z")
unfolding chars encode day_at days_of_first_years days_of_months
add_to_time-second = refl

add_to_time-minute : add_to_time_row (word "0001-01-01" ∷ plus 90 ∷ word "MINUTE" ∷ []) ≡ Ok (word "0001-01-01T01:30:00.0000000Z")
unfolding chars encode day_at days_of_first_years days_of_months
add_to_time-minute = refl

add_to_time-hour : add_to_time_row (word "0001-01-01" ∷ plus 30 ∷ word "hour" ∷ []) ≡ Ok (word "0001-01-02T06:00:00.0000000Z")
unfolding chars encode day_at days_of_first_years days_of_months
add_to_time-hour = refl

add_to_time-day : add_to_time_row (word "0001-01-01" ∷ plus 31 ∷ word "Day" ∷ word "s" ∷ []) ≡ Ok (word "0001-02-01T00:00:00")
unfolding chars encode day_at days_of_first_years days_of_months
add_to_time-day = refl

add_to_time-week : add_to_time_row (word "0001-01-01" ∷ plus 2 ∷ word "Week" ∷ word "s" ∷ []) ≡ Ok (word "0001-01-15T00:00:00")
unfolding chars encode day_at days_of_first_years days_of_months
add_to_time-week = refl

add_to_time-month : add_to_time_row (word "0004-01-31T01:02:03Z" ∷ plus 1 ∷ word "Month" ∷ []) ≡ Ok (word "0004-02-29T01:02:03.0000000Z")
unfolding chars encode day_at days_of_first_years days_of_months
add_to_time-month = refl

add_to_time-month_of_no_leap : add_to_time_row (word "0003-01-31" ∷ plus 1 ∷ word "Month" ∷ word "s" ∷ []) ≡ Ok (word "0003-02-28T00:00:00")
unfolding chars encode day_at days_of_first_years days_of_months
add_to_time-month_of_no_leap = refl

add_to_time-month_keeps_the_day : add_to_time_row (word "0004-01-30" ∷ plus 2 ∷ word "Month" ∷ word "s" ∷ [])
    ≡ Ok (word "0004-03-30T00:00:00")
unfolding chars encode day_at days_of_first_years days_of_months
add_to_time-month_keeps_the_day = refl

add_to_time-months_back : add_to_time_row (word "0004-03-31" ∷ minus 1 ∷ word "Month" ∷ word "s" ∷ []) ≡ Ok (word "0004-02-29T00:00:00")
unfolding chars encode day_at days_of_first_years days_of_months
add_to_time-months_back = refl

add_to_time-months_over_a_year : add_to_time_row (word "0001-11-15" ∷ plus 3 ∷ word "month" ∷ word "s" ∷ [])
    ≡ Ok (word "0002-02-15T00:00:00")
unfolding chars encode day_at days_of_first_years days_of_months
add_to_time-months_over_a_year = refl

add_to_time-year : add_to_time_row (word "0004-02-29" ∷ minus 1 ∷ word "Year" ∷ word "s" ∷ []) ≡ Ok (word "0003-02-28T00:00:00")
unfolding chars encode day_at days_of_first_years days_of_months
add_to_time-year = refl

add_to_time-years_to_a_leap_day : add_to_time_row (word "0001-02-28" ∷ plus 3 ∷ word "year" ∷ word "s" ∷ [])
    ≡ Ok (word "0004-02-28T00:00:00")
unfolding chars encode day_at days_of_first_years days_of_months
add_to_time-years_to_a_leap_day = refl

add_to_time-month_before_year_1 : add_to_time_row (word "0001-01-31" ∷ minus 1 ∷ word "Month" ∷ []) ≡ Err (EvalFault.Range Fun.AddToTime)
unfolding chars encode day_at days_of_first_years days_of_months
add_to_time-month_before_year_1 = refl

add_to_time-years_past_9999 : add_to_time_row (word "0001-01-01" ∷ plus 9999 ∷ word "Year" ∷ []) ≡ Err (EvalFault.Range Fun.AddToTime)
unfolding chars encode day_at days_of_first_years days_of_months
add_to_time-years_past_9999 = refl

add_to_time-months_greatest : add_to_time_row (word "0001-01-01" ∷ greatest ∷ word "Month" ∷ []) ≡ Err (EvalFault.Range Fun.AddToTime)
unfolding chars encode day_at days_of_first_years days_of_months
add_to_time-months_greatest = refl

add_to_time-years_least : add_to_time_row (word "0001-01-01" ∷ least ∷ word "Year" ∷ []) ≡ Err (EvalFault.Range Fun.AddToTime)
unfolding chars encode day_at days_of_first_years days_of_months
add_to_time-years_least = refl

add_to_time-units : add_to_time_row (word "0001-01-01" ∷ plus 1 ∷ word "Days" ∷ []) ≡ Err (EvalFault.Range Fun.AddToTime)
unfolding chars encode day_at days_of_first_years days_of_months
add_to_time-units = refl

add_to_time-no_unit : add_to_time_row (word "0001-01-01" ∷ plus 1 ∷ word "" ∷ []) ≡ Err (EvalFault.Range Fun.AddToTime)
unfolding chars encode day_at days_of_first_years days_of_months
add_to_time-no_unit = refl

add_to_time-pattern_before_unit : add_to_time_row (word "0001-01-01" ∷ plus 1 ∷ word "Days" ∷ word "q" ∷ [])
    ≡ Err (EvalFault.BadText Fun.AddToTime)
unfolding chars encode day_at days_of_first_years days_of_months
add_to_time-pattern_before_unit = refl

add_to_time-timestamp_before_pattern : add_to_time_row (word "x" ∷ plus 1 ∷ word "Days" ∷ word "q" ∷ [])
    ≡ Err (EvalFault.BadText Fun.AddToTime)
unfolding chars encode day_at days_of_first_years days_of_months
add_to_time-timestamp_before_pattern = refl

add_to_time-number_as_unit : add_to_time_row (word "x" ∷ plus 1 ∷ plus 1 ∷ word "q" ∷ []) ≡ Err (EvalFault.WrongType Fun.AddToTime 3)
unfolding chars encode day_at days_of_first_years days_of_months
add_to_time-number_as_unit = refl

add_to_time-number_as_pattern : add_to_time_row (word "x" ∷ plus 1 ∷ word "Days" ∷ plus 1 ∷ []) ≡ Err (EvalFault.WrongType Fun.AddToTime 4)
unfolding chars encode day_at days_of_first_years days_of_months
add_to_time-number_as_pattern = refl

add_to_time-text_as_number : add_to_time_row (word "x" ∷ word "1" ∷ plus 1 ∷ plus 1 ∷ []) ≡ Err (EvalFault.WrongType Fun.AddToTime 2)
unfolding chars encode day_at days_of_first_years days_of_months
add_to_time-text_as_number = refl

subtract_from_time-day : subtract_from_time_row (word "0001-01-02" ∷ plus 1 ∷ word "Day" ∷ word "s" ∷ []) ≡ Ok (word "0001-01-01T00:00:00")
unfolding chars encode day_at days_of_first_years days_of_months
subtract_from_time-day = refl

subtract_from_time-later : subtract_from_time_row (word "0001-01-01" ∷ minus 1 ∷ word "Week" ∷ word "s" ∷ [])
    ≡ Ok (word "0001-01-08T00:00:00")
unfolding chars encode day_at days_of_first_years days_of_months
subtract_from_time-later = refl

subtract_from_time-month : subtract_from_time_row (word "0001-03-31" ∷ plus 1 ∷ word "Month" ∷ word "s" ∷ [])
    ≡ Ok (word "0001-02-28T00:00:00")
unfolding chars encode day_at days_of_first_years days_of_months
subtract_from_time-month = refl

subtract_from_time-year : subtract_from_time_row (word "0004-02-29" ∷ plus 3 ∷ word "Year" ∷ word "s" ∷ [])
    ≡ Ok (word "0001-02-28T00:00:00")
unfolding chars encode day_at days_of_first_years days_of_months
subtract_from_time-year = refl

subtract_from_time-before_year_1 : subtract_from_time_row (word "0001-01-01T00:00:00.9999999Z" ∷ plus 1 ∷ word "Second" ∷ [])
    ≡ Err (EvalFault.Range Fun.SubtractFromTime)
unfolding chars encode day_at days_of_first_years days_of_months
subtract_from_time-before_year_1 = refl

subtract_from_time-least : subtract_from_time_row (word "0001-01-01" ∷ least ∷ word "Second" ∷ [])
    ≡ Err (EvalFault.Range Fun.SubtractFromTime)
unfolding chars encode day_at days_of_first_years days_of_months
subtract_from_time-least = refl

subtract_from_time-greatest : subtract_from_time_row (word "0001-01-01" ∷ greatest ∷ word "Month" ∷ [])
    ≡ Err (EvalFault.Range Fun.SubtractFromTime)
unfolding chars encode day_at days_of_first_years days_of_months
subtract_from_time-greatest = refl

subtract_from_time-by_none : subtract_from_time_row (word "0001-01-31" ∷ plus 0 ∷ word "Month" ∷ word "s" ∷ [])
    ≡ Ok (word "0001-01-31T00:00:00")
unfolding chars encode day_at days_of_first_years days_of_months
subtract_from_time-by_none = refl

subtract_from_time-unknown_unit : subtract_from_time_row (word "0001-01-01" ∷ plus 0 ∷ word "Millisecond" ∷ [])
    ≡ Err (EvalFault.Range Fun.SubtractFromTime)
unfolding chars encode day_at days_of_first_years days_of_months
subtract_from_time-unknown_unit = refl

subtract_from_time-number : subtract_from_time_row (plus 1 ∷ plus 1 ∷ word "Day" ∷ []) ≡ Err (EvalFault.WrongType Fun.SubtractFromTime 1)
unfolding chars encode day_at days_of_first_years days_of_months
subtract_from_time-number = refl
