-- Moments moved (Workflow Definition Language, date and time functions addDays, addHours, addMinutes, addSeconds, addToTime and
-- subtractFromTime).
use Rattle.std.specs.Prelude.{ℕ, suc, ◌+◌, ◌-◌, ◌*◌, ◌/◌, ◌%◌, min, ℤ, pos, negsuc, true, false, not, ◌&&◌, List, Option, Some, None}
use Rattle.std.specs.Prelude.{option_map, codes, nat_le, nat_lt, if◌then◌else◌}
use Rattle.std.specs.Str.{str_eq_ignore_ascii_case}
use Rattle.wf_val.specs.Arguments.{Answer, given, text_at, number_at, optional_text_at}
use Rattle.wf_val.specs.ValueTree.{ValueTree}
use Rattle.wf_val.specs.declared.function.Fun.{Fun}
use Rattle.jiff_core.specs.Calendar.{days_in_month}
use Rattle.wf_fn_time.specs.Calendar.{day_at, day_number}
use Rattle.wf_fn_time.specs.Moments.{ticks_a_day, later, earlier}
use Rattle.wf_fn_time.specs.Times.{moment_of, or_range, pattern_of, printed_value}
use Rattle.wf_fn_time.specs.declared.calendar.Day.{Day}
use Rattle.wf_fn_time.specs.declared.shift.Shift.{Shift}
use Rattle.wf_fn_time.specs.declared.shift.TimeUnit.{TimeUnit}

-- how far a number moves: one below 0 moves back
abbrev pub shift_of : ℤ → Shift
shift_of (pos n) = record { back = false; count = n }
shift_of (negsuc n) = record { back = true; count = suc n }

-- just as far the other way
abbrev pub opposite : Shift → Shift
opposite s = record { back = not s.back; count = s.count }

-- so many units of so many ticks later, or earlier; none outside the years 1 to 9999
abbrev pub moved : ℕ → Shift → ℕ → Option ℕ
moved unit s t = if s.back then earlier t (s.count * unit) else later t (s.count * unit)

-- the months from January of the year 0 to the month of a day
abbrev pub month_number : Day → ℕ
month_number d = d.year * 12 + (d.month - 1)

-- a month of the years 1 to 9999
abbrev pub month_in_years : ℕ → Option ℕ
month_in_years k = if (nat_le 12 k && nat_lt k 120000) then Some k else None

-- so many times so many months later, or earlier; none outside the years 1 to 9999
abbrev pub month_moved : ℕ → Shift → ℕ → Option ℕ
month_moved months s k =
    if s.back then (if nat_le (s.count * months) k then month_in_years (k - s.count * months) else None)
    else month_in_years (k + s.count * months)

-- the same day of another month, or its last
abbrev pub day_in_month : ℕ → ℕ → Day
day_in_month day k = record { year = k / 12; month = k % 12 + 1; day = min day (days_in_month (pos (k / 12)) (k % 12 + 1)) }

-- the same time of the day there
abbrev pub at_month : ℕ → ℕ → ℕ → ℕ
at_month t day k = day_number (day_in_month day k) * ticks_a_day + t % ticks_a_day

abbrev pub moved_by_months : ℕ → Shift → ℕ → Option ℕ
moved_by_months months s t =
    option_map (at_month t (day_at (t / ticks_a_day)).day) (month_moved months s (month_number (day_at (t / ticks_a_day))))

-- the unit that a text names, without the case of ASCII letters
abbrev pub unit_of : List ℕ → Option TimeUnit
unit_of s =
    if str_eq_ignore_ascii_case s (codes "Second") then Some TimeUnit.Second
    else (if str_eq_ignore_ascii_case s (codes "Minute") then Some TimeUnit.Minute
    else (if str_eq_ignore_ascii_case s (codes "Hour") then Some TimeUnit.Hour
    else (if str_eq_ignore_ascii_case s (codes "Day") then Some TimeUnit.Day
    else (if str_eq_ignore_ascii_case s (codes "Week") then Some TimeUnit.Week
    else (if str_eq_ignore_ascii_case s (codes "Month") then Some TimeUnit.Month
    else (if str_eq_ignore_ascii_case s (codes "Year") then Some TimeUnit.Year else None))))))

abbrev pub shifted : TimeUnit → Shift → ℕ → Option ℕ
shifted TimeUnit.Second = moved 10000000
shifted TimeUnit.Minute = moved 600000000
shifted TimeUnit.Hour = moved 36000000000
shifted TimeUnit.Day = moved 864000000000
shifted TimeUnit.Week = moved 6048000000000
shifted TimeUnit.Month = moved_by_months 1
shifted TimeUnit.Year = moved_by_months 12

abbrev pub shifted_by : Option TimeUnit → Shift → ℕ → Option ℕ
shifted_by (Some unit) s t = shifted unit s t
shifted_by None s t = None

-- a moment moved by so many of a unit, and printed. `Range` where there is no such unit, and outside the years 1 to 9999
abbrev pub moved_row : Fun → ℕ → Option (List ℕ) → Shift → Option TimeUnit → Answer
moved_row f t p s unit = given (pattern_of f p) (λ ps. given (or_range f (shifted_by unit s t)) (λ t. printed_value t ps))

-- moved by a number of a fixed unit
abbrev pub add_row : Fun → TimeUnit → List ValueTree → Answer
add_row f unit ts =
    given (text_at f ts 0) (λ s. given (number_at f ts 1) (λ n. given (optional_text_at f ts 2) (λ p. given (moment_of f s) (λ t.
    moved_row f t p (shift_of n) (Some unit)))))

abbrev pub add_days_row : List ValueTree → Answer
add_days_row = add_row Fun.AddDays TimeUnit.Day

abbrev pub add_hours_row : List ValueTree → Answer
add_hours_row = add_row Fun.AddHours TimeUnit.Hour

abbrev pub add_minutes_row : List ValueTree → Answer
add_minutes_row = add_row Fun.AddMinutes TimeUnit.Minute

abbrev pub add_seconds_row : List ValueTree → Answer
add_seconds_row = add_row Fun.AddSeconds TimeUnit.Second

-- moved by a number of a named unit, one way or the other
abbrev pub to_time_row : Fun → (Shift → Shift) → List ValueTree → Answer
to_time_row f way ts =
    given (text_at f ts 0) (λ s. given (number_at f ts 1) (λ n. given (text_at f ts 2) (λ unit. given (optional_text_at f ts 3) (λ p.
    given (moment_of f s) (λ t. moved_row f t p (way (shift_of n)) (unit_of unit))))))

abbrev pub add_to_time_row : List ValueTree → Answer
add_to_time_row = to_time_row Fun.AddToTime (λ s. s)

abbrev pub subtract_from_time_row : List ValueTree → Answer
subtract_from_time_row = to_time_row Fun.SubtractFromTime opposite
