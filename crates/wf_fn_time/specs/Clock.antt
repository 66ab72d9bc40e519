-- A moment by its parts, as a calendar and a clock in UTC show it.
use Rattle.std.specs.Prelude.{ℕ, ◌/◌, ◌%◌, ◌==◌, if◌then◌else◌}
use Rattle.wf_fn_time.specs.Calendar.{day_at, weekday}
use Rattle.wf_fn_time.specs.Moments.{ticks_a_day}
use Rattle.wf_fn_time.specs.declared.clock.Clock.{Clock}

abbrev pub clock_at : ℕ → Clock
clock_at t = record {
  day = day_at (t / ticks_a_day);
  weekday = weekday (t / ticks_a_day);
  hour = t / 36000000000 % 24;
  minute = t / 600000000 % 60;
  second = t / 10000000 % 60;
  fraction = t % 10000000;
}

-- the hour of half a day, 12 for 0
abbrev pub half_day_hour : ℕ → ℕ
half_day_hour hour = if hour % 12 == 0 then 12 else hour % 12
