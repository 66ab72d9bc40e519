-- What the parts of a pattern print of a moment.
use Rattle.std.specs.Prelude.{ℕ, zero, suc, ◌+◌, ◌/◌, ◌%◌, List, [], ◌∷◌, ◌++◌, codes, nat_lt, if◌then◌else◌}
use Rattle.std.specs.List.{flat_map}
use Rattle.std.specs.Char.{encode_utf8}
use Rattle.wf_fn_time.specs.Clock.{half_day_hour}
use Rattle.wf_fn_time.specs.Names.{month_name, month_abbreviation, weekday_name, weekday_abbreviation}
use Rattle.wf_fn_time.specs.declared.clock.Clock.{Clock}
use Rattle.wf_fn_time.specs.declared.pattern.Field.{Field}
use Rattle.wf_fn_time.specs.declared.pattern.Part.{Part}
use Rattle.wf_fn_time.specs.declared.pattern.Part.TheVariants.{Run, Itself}

-- the last decimal digits of a number, so many of them
abbrev pub last_digits : ℕ → ℕ → List ℕ
last_digits zero n = []
last_digits (suc count) n = last_digits count (n / 10) ++ (48 + n % 10) ∷ []

-- a number below 100 without a zero in front
abbrev pub short : ℕ → List ℕ
short n = if nat_lt n 10 then last_digits 1 n else last_digits 2 n

abbrev pub field_printed : Clock → Field → List ℕ
field_printed c Field.Year = last_digits 4 c.day.year
field_printed c Field.YearOfCentury = last_digits 2 c.day.year
field_printed c Field.MonthName = month_name c.day.month
field_printed c Field.MonthAbbreviation = month_abbreviation c.day.month
field_printed c Field.PaddedMonth = last_digits 2 c.day.month
field_printed c Field.Month = short c.day.month
field_printed c Field.WeekdayName = weekday_name c.weekday
field_printed c Field.WeekdayAbbreviation = weekday_abbreviation c.weekday
field_printed c Field.PaddedDay = last_digits 2 c.day.day
field_printed c Field.DayOfMonth = short c.day.day
field_printed c Field.PaddedHour = last_digits 2 c.hour
field_printed c Field.Hour = short c.hour
field_printed c Field.PaddedHalfDayHour = last_digits 2 (half_day_hour c.hour)
field_printed c Field.HalfDayHour = short (half_day_hour c.hour)
field_printed c Field.PaddedMinute = last_digits 2 c.minute
field_printed c Field.Minute = short c.minute
field_printed c Field.PaddedSecond = last_digits 2 c.second
field_printed c Field.Second = short c.second
field_printed c Field.Fraction1 = last_digits 1 (c.fraction / 1000000)
field_printed c Field.Fraction2 = last_digits 2 (c.fraction / 100000)
field_printed c Field.Fraction3 = last_digits 3 (c.fraction / 10000)
field_printed c Field.Fraction4 = last_digits 4 (c.fraction / 1000)
field_printed c Field.Fraction5 = last_digits 5 (c.fraction / 100)
field_printed c Field.Fraction6 = last_digits 6 (c.fraction / 10)
field_printed c Field.Fraction7 = last_digits 7 c.fraction
field_printed c Field.HalfDay = if nat_lt c.hour 12 then codes "AM" else codes "PM"

abbrev pub part_printed : Clock → Part → List ℕ
part_printed c (Run f) = field_printed c f
part_printed c (Itself d) = encode_utf8 d

abbrev pub printed : Clock → List Part → List ℕ
printed c ps = flat_map (part_printed c) ps
