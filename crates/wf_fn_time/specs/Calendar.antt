-- Days of the calendar (ISO 8601: the Gregorian calendar, also before it was in use), counted from 1 January of the year 1.
use Rattle.std.specs.Prelude.{ℕ, zero, suc, ◌+◌, ◌-◌, ◌%◌, Bool, ◌&&◌, pos, unsigned_abs, nat_le, nat_lt, if◌then◌else◌}
use Rattle.jiff_core.specs.Calendar.{days_in_month, days_in_year, day_of_year}
use Rattle.jiff_core.specs.declared.civil.date.Date.{Date}
use Rattle.wf_fn_time.specs.declared.calendar.Day.{Day}

-- the calendar has this day, in the years 1 to 9999
abbrev pub is_day : Day → Bool
is_day d =
    nat_le 1 d.year && nat_le d.year 9999 && nat_le 1 d.month && nat_le d.month 12 && nat_le 1 d.day
    && nat_le d.day (days_in_month (pos d.year) d.month)

-- the day after a day
abbrev pub day_after : Day → Day
day_after d =
    if nat_lt d.day (days_in_month (pos d.year) d.month) then record { year = d.year; month = d.month; day = suc d.day }
    else (if nat_lt d.month 12 then record { year = d.year; month = suc d.month; day = 1 } else record {
      year = suc d.year;
      month =
          1;
      day = 1;
    })

-- so many times the day after 1 January of the year 1
unfoldable pub day_at : ℕ → Day
day_at zero = record { year = 1; month = 1; day = 1 }
day_at (suc n) = day_after (day_at n)

-- the days of so many years from the year 1 on
unfoldable pub days_of_first_years : ℕ → ℕ
days_of_first_years zero = 0
days_of_first_years (suc n) = days_of_first_years n + days_in_year (pos (suc n))

-- how many days a day is after 1 January of the year 1
abbrev pub day_number : Day → ℕ
day_number d = days_of_first_years (d.year - 1) + (day_of_year (pos d.year) d.month d.day - 1)

-- its place in its year, from 1
abbrev pub place_in_year : Day → ℕ
place_in_year d = day_of_year (pos d.year) d.month d.day

-- the day of the week, Sunday being 0; 1 January of the year 1 was a Monday
abbrev pub weekday : ℕ → ℕ
weekday n = (n + 1) % 7

-- the day that a date of the library is, of a year from 1 on
abbrev pub date_day : Date → Day
date_day d = record { year = unsigned_abs d.year; month = d.month; day = d.day }
