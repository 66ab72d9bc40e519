-- A schedule in use, by minutes. Minutes and days are counted from the start of the year 1.
use Rattle.std.specs.Prelude.{◌≡◌, ℕ, ◌+◌, ◌-◌, ◌/◌, ◌%◌, ◌<◌, ◌≤◌, Bool, true, false, Option, Some, None, if◌then◌else◌}
use Rattle.wf_fn_time.specs.Clock.{clock_at}
use Rattle.wf_recur.specs.Due.{day_of, week_of}
use Rattle.wf_recur.specs.Sets.{has, or_own}
use Rattle.wf_recur.specs.declared.recurrence.Recurrence.{Recurrence}
use Rattle.wf_recur.specs.declared.timetable.Timetable.{Timetable}

-- the last minute of the year 9999
abbrev pub last_minute : ℕ
last_minute = 5258964959

-- the schedule of a recurrence with the start b, with what it doesn't name from there
abbrev pub timetable_of : Recurrence → Bool → ℕ → Timetable
timetable_of r is_weekly b = record {
  is_weekly = is_weekly;
  interval = r.interval;
  start = if is_weekly then week_of b else day_of b;
  days = or_own (clock_at b).weekday r.days;
  hours = or_own (clock_at b).hour r.hours;
  minutes = or_own (clock_at b).minute r.minutes;
}

-- a day isn't before the first day, or the first week, that counts
abbrev pub IsFromStartBy : Bool → Timetable → ℕ → Type 0
IsFromStartBy false t day = t.start ≤ day
IsFromStartBy true t day = t.start ≤ day / 7

abbrev pub IsFromStart : Timetable → ℕ → Type 0
IsFromStart t day = IsFromStartBy t.is_weekly t day

-- a day is due by the number of days since the start, or by that of weeks and the day of the week
abbrev pub IsDueByDays : Timetable → ℕ → Type 0
IsDueByDays t day = (day - t.start) % t.interval ≡ 0

abbrev pub IsDueByWeeks : Timetable → ℕ → Type 0
IsDueByWeeks t day = ((day / 7 - t.start) % t.interval ≡ 0) × (has t.days ((day + 1) % 7) ≡ true)

abbrev pub IsDueDayBy : Bool → Timetable → ℕ → Type 0
IsDueDayBy false t day = IsDueByDays t day
IsDueDayBy true t day = IsDueByWeeks t day

abbrev pub IsDueDay : Timetable → ℕ → Type 0
IsDueDay t day = IsDueDayBy t.is_weekly t day

-- a minute is due by its hour and its place in it
abbrev pub IsDueTime : Timetable → ℕ → Type 0
IsDueTime t minute = (has t.hours (minute / 60 % 24) ≡ true) × (has t.minutes (minute % 60) ≡ true)

abbrev pub IsDueMinute : Timetable → ℕ → Type 0
IsDueMinute t minute = IsDueDay t (minute / 1440) × IsDueTime t minute

-- n has a property; or it hasn't, and none from n on has it up to a number further on
abbrev pub Passes : (ℕ → Type 0) → ℕ → Option ℕ → Type 0
Passes P n None = P n
Passes P n (Some further) = (n < further) × ((k : ℕ) → n ≤ k → k < further → P k → ⊥)
