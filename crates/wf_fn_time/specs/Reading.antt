-- Timestamps (ISO 8601, calendar dates with a time of the day and an offset from UTC):
--     yyyy-MM-dd [T HH:mm [:ss [.f to .fffffff]] [Z or +hh:mm or -hh:mm]]
use Rattle.std.specs.Prelude.{ℕ, zero, suc, ◌+◌, ◌-◌, ◌*◌, ◌||◌, List, [], ◌∷◌, Option, Some, None, option_map, nat_lt, ◌==◌, if◌then◌else◌}
use Rattle.std.specs.Char.{is_ascii_digit}
use Rattle.wf_fn_time.specs.Calendar.{is_day, day_number}
use Rattle.wf_fn_time.specs.Moments.{ticks_a_day, later, earlier}
use Rattle.wf_fn_time.specs.declared.calendar.Day.{Day}
use Rattle.wf_fn_time.specs.declared.reading.Offset.{Offset}
use Rattle.wf_fn_time.specs.declared.reading.Offset.TheVariants.{East, West}

-- what was read, and what is behind it
abbrev pub Read : Type 0 → Type 0
Read X = Option (X × List ℕ)

abbrev pub then_read : {X Y : Type 0} → Read X → (X → List ℕ → Option Y) → Option Y
then_read (Some r) next = next r.0 r.1
then_read None next = None

-- a number of just so many digits, behind the digits of n
abbrev pub digits : ℕ → ℕ → List ℕ → Read ℕ
digits zero n bs = Some (n, bs)
digits (suc k) n [] = None
digits (suc k) n (b ∷ bs) = if is_ascii_digit b then digits k (n * 10 + (b - 48)) bs else None

-- what is behind a character
abbrev pub behind : ℕ → List ℕ → Option (List ℕ)
behind c [] = None
behind c (b ∷ bs) = if b == c then Some bs else None

abbrev pub then_behind : {Y : Type 0} → Option (List ℕ) → (List ℕ → Option Y) → Option Y
then_behind (Some s) next = next s
then_behind None next = None

abbrev pub day_if : Day → List ℕ → Read Day
day_if d s = if is_day d then Some (d, s) else None

-- yyyy-MM-dd, a day of the calendar
abbrev pub read_day : List ℕ → Read Day
read_day s =
    then_read (digits 4 0 s) (λ year s. then_behind (behind 45 s) (λ s. then_read (digits 2 0 s) (λ month s. then_behind (behind 45 s) (λ s.
    then_read (digits 2 0 s) (λ day s. day_if (record { year = year; month = month; day = day }) s)))))

-- digits of these weights, as many as there are
abbrev pub weighed : List ℕ → ℕ → List ℕ → ℕ × List ℕ
weighed [] n bs = (n, bs)
weighed (w ∷ ws) n [] = (n, [])
weighed (w ∷ ws) n (b ∷ bs) = if is_ascii_digit b then weighed ws (n + w * (b - 48)) bs else (n, b ∷ bs)

-- a fraction of a second in ticks: one digit, and up to six more
abbrev pub read_fraction : List ℕ → Read ℕ
read_fraction s = then_read (digits 1 0 s) (λ n s. Some (weighed (100000 ∷ 10000 ∷ 1000 ∷ 100 ∷ 10 ∷ 1 ∷ []) (n * 1000000) s))

-- seconds in ticks, with their fraction where a point follows
abbrev pub with_fraction : ℕ → List ℕ → Option (List ℕ) → Read ℕ
with_fraction seconds s None = Some (seconds * 10000000, s)
with_fraction seconds s (Some r) = then_read (read_fraction r) (λ fraction s. Some (seconds * 10000000 + fraction, s))

abbrev pub seconds_of : List ℕ → Option (List ℕ) → Read ℕ
seconds_of s None = Some (0, s)
seconds_of s (Some r) = then_read (digits 2 0 r) (λ seconds s. if nat_lt 59 seconds then None else with_fraction seconds s (behind 46 s))

-- seconds in ticks, 0 where no colon follows
abbrev pub read_second : List ℕ → Read ℕ
read_second s = seconds_of s (behind 58 s)

-- hours and minutes, hours up to a limit, in minutes
abbrev pub read_minutes : ℕ → List ℕ → Read ℕ
read_minutes limit s =
    then_read (digits 2 0 s) (λ hours s. then_behind (behind 58 s) (λ s. then_read (digits 2 0 s) (λ minutes s.
    if (nat_lt limit hours || nat_lt 59 minutes) then None else Some (hours * 60 + minutes, s))))

-- a time of the day in ticks
abbrev pub read_clock : List ℕ → Read ℕ
read_clock s = then_read (read_minutes 23 s) (λ minutes s. then_read (read_second s) (λ second s. Some (minutes * 600000000 + second, s)))

-- an offset from UTC with which the text ends; without one the time is UTC
abbrev pub ended : Offset → List ℕ → Option Offset
ended offset [] = Some offset
ended offset (b ∷ bs) = None

abbrev pub offset_of : (ℕ → Offset) → List ℕ → Option Offset
offset_of side s = then_read (read_minutes 14 s) (λ minutes s. ended (side minutes) s)

abbrev pub read_offset : List ℕ → Option Offset
read_offset [] = Some (East 0)
read_offset (b ∷ bs) =
    if b == 90 then ended (East 0) bs
    else (if b == 43 then offset_of East bs else (if b == 45 then offset_of West bs else None))

-- the time of the day and the offset behind a date; without a time it is 00:00 in UTC
abbrev pub read_time_of_day : List ℕ → Option (ℕ × Offset)
read_time_of_day [] = Some (0, East 0)
read_time_of_day (b ∷ bs) =
    if b == 84 then then_read (read_clock bs) (λ clock s. option_map (λ offset. (clock, offset)) (read_offset s)) else None

-- the moment in UTC of a local one: east of Greenwich clocks are ahead
abbrev pub at_offset : ℕ → Offset → Option ℕ
at_offset local (East minutes) = earlier local (minutes * 600000000)
at_offset local (West minutes) = later local (minutes * 600000000)

abbrev pub at_time_of_day : ℕ → Option (ℕ × Offset) → Option ℕ
at_time_of_day start None = None
at_time_of_day start (Some r) = at_offset (start + r.0) r.1

-- the moment that a text writes; none where it is no timestamp, or the moment isn't in the years 1 to 9999
abbrev pub read_time : List ℕ → Option ℕ
read_time s = then_read (read_day s) (λ d s. at_time_of_day (day_number d * ticks_a_day) (read_time_of_day s))
