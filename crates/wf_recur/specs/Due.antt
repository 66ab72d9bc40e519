-- When a recurrence is due (Workflow Definition Language, Recurrence trigger: frequency, interval, startTime and schedule). Moments are
-- ticks of 100 ns since 1 January of the year 1, 00:00 in UTC.
use Rattle.std.specs.Prelude.{◌≡◌, ℕ, ◌-◌, ◌*◌, ◌/◌, ◌%◌, ◌≤◌, ◌||◌, true, false, Option, Some, unwrap_or, if◌then◌else◌}
use Rattle.wf_fn_time.specs.Clock.{clock_at}
use Rattle.wf_fn_time.specs.Moments.{last_tick, ticks_a_day}
use Rattle.wf_fn_time.specs.Moving.{shifted}
use Rattle.wf_fn_time.specs.declared.shift.TimeUnit.{TimeUnit}
use Rattle.wf_recur.specs.Sets.{has, has_any, or_own}
use Rattle.wf_recur.specs.declared.frequency.Frequency.{Frequency}
use Rattle.wf_recur.specs.declared.recurrence.Kind.{Kind}
use Rattle.wf_recur.specs.declared.recurrence.Recurrence.{Recurrence}

-- A recurrence without a start starts at the moment from which it is asked for.
abbrev pub start_or : Recurrence → ℕ → ℕ
start_or r from = unwrap_or r.start from

-- A schedule is in use for days with hours or minutes, and for weeks with any of the three.
abbrev pub kind_of_day : Recurrence → Kind
kind_of_day r = if has_any r.hours || has_any r.minutes then Kind.Days else Kind.Steps 864000000000

abbrev pub kind_of_week : Recurrence → Kind
kind_of_week r = if has_any r.hours || has_any r.minutes || has_any r.days then Kind.Weeks else Kind.Steps 6048000000000

abbrev pub kind_by : Frequency → Recurrence → Kind
kind_by Frequency.Second r = Kind.Steps 10000000
kind_by Frequency.Minute r = Kind.Steps 600000000
kind_by Frequency.Hour r = Kind.Steps 36000000000
kind_by Frequency.Day r = kind_of_day r
kind_by Frequency.Week r = kind_of_week r
kind_by Frequency.Month r = Kind.Months

-- what decides when it is due
abbrev pub kind_of : Recurrence → Kind
kind_of r = kind_by r.frequency r

-- so many months later, as `addToTime` moves: the same day of the month, or its last
abbrev pub months_later : ℕ → ℕ → Option ℕ
months_later n t = shifted TimeUnit.Month (record { back = false; count = n }) t

-- m is a number of intervals of months behind the start b
abbrev pub IsMonthsLater : ℕ → ℕ → ℕ → Type 0
IsMonthsLater interval b m = (k : ℕ) × (months_later (k * interval) b ≡ Some m)

-- days are counted from 1 January of the year 1, and so are weeks: that day was a Monday, with which they begin
abbrev pub day_of : ℕ → ℕ
day_of t = t / ticks_a_day

abbrev pub week_of : ℕ → ℕ
week_of t = day_of t / 7

-- m is a full minute at an hour and a minute that the schedule names; where it names none these are the start's own
pub record IsOnSchedule (r : Recurrence) (b m : ℕ) : Type 0 where
  pub second : (clock_at m).second ≡ 0
  pub fraction : (clock_at m).fraction ≡ 0
  pub hour : has (or_own (clock_at b).hour r.hours) (clock_at m).hour ≡ true
  pub minute : has (or_own (clock_at b).minute r.minutes) (clock_at m).minute ≡ true

-- and so is its day of the week
abbrev pub IsOnWeekday : Recurrence → ℕ → ℕ → Type 0
IsOnWeekday r b m = has (or_own (clock_at b).weekday r.days) (clock_at m).weekday ≡ true

abbrev pub IsDueBy : Kind → Recurrence → ℕ → ℕ → Type 0
IsDueBy (Kind.Steps unit) r b m = (m - b) % (r.interval * unit) ≡ 0
IsDueBy Kind.Months r b m = IsMonthsLater r.interval b m
IsDueBy Kind.Days r b m = IsOnSchedule r b m × ((day_of m - day_of b) % r.interval ≡ 0)
IsDueBy Kind.Weeks r b m = IsOnSchedule r b m × IsOnWeekday r b m × ((week_of m - week_of b) % r.interval ≡ 0)

-- A recurrence with the start b is due at m: in the years 1 to 9999, not before its start, and as its kind says.
pub record IsDue (r : Recurrence) (b m : ℕ) : Type 0 where
  pub in_years : m ≤ last_tick
  pub from_start : b ≤ m
  pub by_kind : IsDueBy (kind_of r) r b m
