-- Moments: ticks of 100 ns since 1 January of the year 1, 00:00 in UTC, up to the end of the year 9999.
use Rattle.std.specs.Prelude.{ℕ, ◌+◌, ◌-◌, Option, Some, None, nat_le, if◌then◌else◌}

abbrev pub ticks_a_day : ℕ
ticks_a_day = 864000000000

-- the last moment of the year 9999
abbrev pub last_tick : ℕ
last_tick = 3155378975999999999

-- the moment of so many ticks; none outside the years 1 to 9999
abbrev pub moment : ℕ → Option ℕ
moment t = if nat_le t last_tick then Some t else None

-- so many ticks later, and earlier
abbrev pub later : ℕ → ℕ → Option ℕ
later t by = moment (t + by)

abbrev pub earlier : ℕ → ℕ → Option ℕ
earlier t by = if nat_le by t then moment (t - by) else None
