-- Rows of the functions dayOfMonth, dayOfYear, dayOfWeek and ticks.
use lib.Utf8.{encode}
use Rattle.std.proofs.Common.{◌≡◌, refl, [], ◌∷◌, Ok, Err}
use Rattle.std.specs.Str.{chars}
use Rattle.jiff_core.specs.Calendar.{days_of_months}
use Rattle.wf_fn_time.specs.Calendar.{day_at, days_of_first_years}
use Rattle.wf_fn_time.specs.Places.{day_of_month_row, day_of_year_row, day_of_week_row, ticks_row}
use Rattle.wf_val.proofs.RowValues.{plus, word}
use Rattle.wf_val.specs.ValueTree.{null}
use Rattle.wf_val.specs.declared.fault.EvalFault.{EvalFault}
use Rattle.wf_val.specs.declared.function.Fun.{Fun}

day_of_month-first : day_of_month_row (word "0001-01-01" ∷ []) ≡ Ok (plus 1)
unfolding chars encode day_at days_of_first_years days_of_months
day_of_month-first = refl

day_of_month-last : day_of_month_row (word "0001-01-31" ∷ []) ≡ Ok (plus 31)
unfolding chars encode day_at days_of_first_years days_of_months
day_of_month-last = refl

day_of_month-in_utc : day_of_month_row (word "0001-02-01T00:00:00+00:01" ∷ []) ≡ Ok (plus 31)
unfolding chars encode day_at days_of_first_years days_of_months
day_of_month-in_utc = refl

day_of_month-leap_day : day_of_month_row (word "0004-02-29" ∷ []) ≡ Ok (plus 29)
unfolding chars encode day_at days_of_first_years days_of_months
day_of_month-leap_day = refl

day_of_month-no_timestamp : day_of_month_row (word "0003-02-29" ∷ []) ≡ Err (EvalFault.BadText Fun.DayOfMonth)
unfolding chars encode day_at days_of_first_years days_of_months
day_of_month-no_timestamp = refl

day_of_month-number : day_of_month_row (plus 1 ∷ []) ≡ Err (EvalFault.WrongType Fun.DayOfMonth 1)
unfolding chars encode day_at days_of_first_years days_of_months
day_of_month-number = refl

day_of_year-first : day_of_year_row (word "0001-01-01" ∷ []) ≡ Ok (plus 1)
unfolding chars encode day_at days_of_first_years days_of_months
day_of_year-first = refl

day_of_year-last : day_of_year_row (word "0001-12-31" ∷ []) ≡ Ok (plus 365)
unfolding chars encode day_at days_of_first_years days_of_months
day_of_year-last = refl

day_of_year-last_of_leap_year : day_of_year_row (word "0004-12-31" ∷ []) ≡ Ok (plus 366)
unfolding chars encode day_at days_of_first_years days_of_months
day_of_year-last_of_leap_year = refl

day_of_year-march : day_of_year_row (word "0004-03-01" ∷ []) ≡ Ok (plus 61)
unfolding chars encode day_at days_of_first_years days_of_months
day_of_year-march = refl

day_of_year-no_timestamp : day_of_year_row (word "" ∷ []) ≡ Err (EvalFault.BadText Fun.DayOfYear)
unfolding chars encode day_at days_of_first_years days_of_months
day_of_year-no_timestamp = refl

day_of_week-monday : day_of_week_row (word "0001-01-01" ∷ []) ≡ Ok (plus 1)
unfolding chars encode day_at days_of_first_years days_of_months
day_of_week-monday = refl

day_of_week-saturday : day_of_week_row (word "0001-01-06" ∷ []) ≡ Ok (plus 6)
unfolding chars encode day_at days_of_first_years days_of_months
day_of_week-saturday = refl

day_of_week-sunday : day_of_week_row (word "0001-01-07T23:59Z" ∷ []) ≡ Ok (plus 0)
unfolding chars encode day_at days_of_first_years days_of_months
day_of_week-sunday = refl

day_of_week-in_utc : day_of_week_row (word "0001-01-07T23:00:00-02:00" ∷ []) ≡ Ok (plus 1)
unfolding chars encode day_at days_of_first_years days_of_months
day_of_week-in_utc = refl

day_of_week-example : day_of_week_row (word "2024-05-05" ∷ []) ≡ Ok (plus 0)
unfolding chars encode day_at days_of_first_years days_of_months
day_of_week-example = refl

day_of_week-no_timestamp : day_of_week_row (word "sunday" ∷ []) ≡ Err (EvalFault.BadText Fun.DayOfWeek)
unfolding chars encode day_at days_of_first_years days_of_months
day_of_week-no_timestamp = refl

day_of_week-null : day_of_week_row (null ∷ []) ≡ Err (EvalFault.WrongType Fun.DayOfWeek 1)
unfolding chars encode day_at days_of_first_years days_of_months
day_of_week-null = refl

ticks-first : ticks_row (word "0001-01-01T00:00:00Z" ∷ []) ≡ Ok (plus 0)
unfolding chars encode day_at days_of_first_years days_of_months
ticks-first = refl

ticks-one : ticks_row (word "0001-01-01T00:00:00.0000001Z" ∷ []) ≡ Ok (plus 1)
unfolding chars encode day_at days_of_first_years days_of_months
ticks-one = refl

ticks-last : ticks_row (word "9999-12-31T23:59:59.9999999Z" ∷ []) ≡ Ok (plus 3155378975999999999)
unfolding chars encode day_at days_of_first_years days_of_months
ticks-last = refl

ticks-day : ticks_row (word "0001-01-02" ∷ []) ≡ Ok (plus 864000000000)
unfolding chars encode day_at days_of_first_years days_of_months
ticks-day = refl

ticks-no_timestamp : ticks_row (word "0" ∷ []) ≡ Err (EvalFault.BadText Fun.Ticks)
unfolding chars encode day_at days_of_first_years days_of_months
ticks-no_timestamp = refl

ticks-number : ticks_row (plus 0 ∷ []) ≡ Err (EvalFault.WrongType Fun.Ticks 1)
unfolding chars encode day_at days_of_first_years days_of_months
ticks-number = refl
