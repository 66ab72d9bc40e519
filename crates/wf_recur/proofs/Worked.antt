-- The definitions at worked values: which moments are due by each kind of recurrence, how a set of numbers is made, what a trigger is read
-- as, each member absent, of a wrong kind and at its bounds, and in which order the faults come.
use Rattle.std.proofs.Common.{◌≡◌, ℕ, List, [], ◌∷◌, Bool, true, false, Some, None, Ok, Err, pos, negsuc, refl, replicate}
use Rattle.std.specs.Fmt.{digits}
use Rattle.std.specs.Prelude.{codes, ◌-◌, ◌+◌, ◌*◌, ◌%◌, ⊤}
use Rattle.jiff_core.specs.Calendar.{days_of_months}
use Rattle.wf_fn_time.specs.Calendar.{day_at, days_of_first_years}
use Rattle.wf_fn_time.specs.Clock.{clock_at}
use Rattle.wf_fn_time.specs.Moments.{ticks_a_day}
use Rattle.wf_val.specs.Get.{name_of}
use Rattle.wf_val.specs.NameOrder.{put_named, without_named}
use Rattle.wf_val.specs.ValueTree.{ValueTree, null, boolean, number, text, list, object, trees, members, no_members, Member}
use Rattle.wf_recur.specs.Asked.{number_in, place_in}
use Rattle.wf_recur.specs.Due.{IsDueBy, IsMonthsLater, day_of, kind_of, months_later, start_or, week_of}
use Rattle.wf_recur.specs.Interval.{interval_of}
use Rattle.wf_recur.specs.Next.{is_before}
use Rattle.wf_recur.specs.Reading.{recurrence_of}
use Rattle.wf_recur.specs.Sets.{has, has_any, or_own, with}
use Rattle.wf_recur.specs.declared.fault.RecurrenceFault.{RecurrenceFault}
use Rattle.wf_recur.specs.declared.frequency.Frequency.{Frequency}
use Rattle.wf_recur.specs.declared.part.Part.{Part}
use Rattle.wf_recur.specs.declared.recurrence.Kind.{Kind}
use Rattle.wf_recur.specs.declared.recurrence.Recurrence.{Recurrence}

-- ---- sets

-- the set of these numbers below a bound
abbrev set_of : ℕ → List ℕ → List Bool
set_of bound [] = replicate bound false
set_of bound (n ∷ ns) = with n (set_of bound ns)

set-first : set_of 3 (0 ∷ []) ≡ true ∷ false ∷ false ∷ []
set-first = refl

set-last : set_of 3 (2 ∷ 0 ∷ []) ≡ true ∷ false ∷ true ∷ []
set-last = refl

set-past : set_of 3 (3 ∷ []) ≡ replicate 3 false
set-past = refl

has-last : has (set_of 24 (23 ∷ [])) 23 ≡ true
has-last = refl

has-other : has (set_of 24 (23 ∷ [])) 22 ≡ false
has-other = refl

has-past : has (set_of 24 (23 ∷ [])) 24 ≡ false
has-past = refl

any-none : has_any (set_of 60 []) ≡ false
any-none = refl

any-last : has_any (set_of 60 (59 ∷ [])) ≡ true
any-last = refl

own-of_none : or_own 5 (set_of 7 []) ≡ set_of 7 (5 ∷ [])
own-of_none = refl

own-of_one : or_own 5 (set_of 7 (0 ∷ [])) ≡ set_of 7 (0 ∷ [])
own-of_one = refl

-- ---- kinds

abbrev scheduled : Frequency → ℕ → List ℕ → List ℕ → List ℕ → Recurrence
scheduled frequency interval hours minutes days = record {
  frequency = frequency;
  interval = interval;
  start = None;
  hours = set_of 24 hours;
  minutes = set_of 60 minutes;
  days = set_of 7 days;
}

abbrev each : Frequency → ℕ → Recurrence
each frequency interval = scheduled frequency interval [] [] []

kind-second : kind_of (each Frequency.Second 1) ≡ Kind.Steps 10000000
kind-second = refl

kind-minute : kind_of (each Frequency.Minute 1) ≡ Kind.Steps (60 * 10000000)
kind-minute = refl

kind-hour : kind_of (each Frequency.Hour 1) ≡ Kind.Steps (60 * 60 * 10000000)
kind-hour = refl

kind-day : kind_of (each Frequency.Day 1) ≡ Kind.Steps (24 * 60 * 60 * 10000000)
kind-day = refl

kind-week : kind_of (each Frequency.Week 1) ≡ Kind.Steps (7 * 24 * 60 * 60 * 10000000)
kind-week = refl

kind-month : kind_of (each Frequency.Month 1) ≡ Kind.Months
kind-month = refl

-- a schedule counts for days with hours or minutes, and for weeks with any of the three
kind-hours_of_day : kind_of (scheduled Frequency.Day 1 (0 ∷ []) [] []) ≡ Kind.Days
kind-hours_of_day = refl

kind-minutes_of_day : kind_of (scheduled Frequency.Day 1 [] (59 ∷ []) []) ≡ Kind.Days
kind-minutes_of_day = refl

kind-weekdays_of_day : kind_of (scheduled Frequency.Day 1 [] [] (1 ∷ [])) ≡ Kind.Steps 864000000000
kind-weekdays_of_day = refl

kind-hours_of_week : kind_of (scheduled Frequency.Week 1 (23 ∷ []) [] []) ≡ Kind.Weeks
kind-hours_of_week = refl

kind-minutes_of_week : kind_of (scheduled Frequency.Week 1 [] (0 ∷ []) []) ≡ Kind.Weeks
kind-minutes_of_week = refl

kind-weekdays_of_week : kind_of (scheduled Frequency.Week 1 [] [] (6 ∷ [])) ≡ Kind.Weeks
kind-weekdays_of_week = refl

kind-schedule_of_month : kind_of (scheduled Frequency.Month 1 (8 ∷ []) (0 ∷ []) (1 ∷ [])) ≡ Kind.Months
kind-schedule_of_month = refl

kind-schedule_of_hour : kind_of (scheduled Frequency.Hour 1 (8 ∷ []) (0 ∷ []) (1 ∷ [])) ≡ Kind.Steps 36000000000
kind-schedule_of_hour = refl

kind-schedule_of_minute : kind_of (scheduled Frequency.Minute 1 (8 ∷ []) (0 ∷ []) (1 ∷ [])) ≡ Kind.Steps 600000000
kind-schedule_of_minute = refl

kind-schedule_of_second : kind_of (scheduled Frequency.Second 1 (8 ∷ []) (0 ∷ []) (1 ∷ [])) ≡ Kind.Steps 10000000
kind-schedule_of_second = refl

-- ---- moments

abbrev minutes : ℕ
minutes = 600000000

abbrev hours : ℕ
hours = 36000000000

-- 2024-05-01T00:00:00Z, a Wednesday
abbrev may_1 : ℕ
may_1 = 638501184000000000

start-none : start_or (each Frequency.Day 1) may_1 ≡ may_1
start-none = refl

start-given : start_or (record (each Frequency.Day 1) { start = Some 5 }) may_1 ≡ 5
start-given = refl

-- every 90 seconds: at the start, after so many intervals, and not a tick apart
abbrev ninety : Recurrence
ninety = each Frequency.Second 90

steps-start : IsDueBy (kind_of ninety) ninety may_1 may_1
steps-start = refl

steps-third : IsDueBy (kind_of ninety) ninety may_1 (may_1 + 2700000000)
steps-third = refl

steps-tick_more : (may_1 + 2700000001 - may_1) % (90 * 10000000) ≡ 1
steps-tick_more = refl

steps-tick_less : (may_1 + 2699999999 - may_1) % (90 * 10000000) ≡ 899999999
steps-tick_less = refl

-- every second day at 8:00, 8:30, 17:00 and 17:30, from the noon of the first of May on
abbrev daily : Recurrence
daily = scheduled Frequency.Day 2 (8 ∷ 17 ∷ []) (0 ∷ 30 ∷ []) []

abbrev noon : ℕ
noon = may_1 + 12 * hours

days-17 : IsDueBy (kind_of daily) daily noon (may_1 + 17 * hours)
days-17 = (record { second = refl; fraction = refl; hour = refl; minute = refl }, refl)

days-17_30 : IsDueBy (kind_of daily) daily noon (may_1 + 17 * hours + 30 * minutes)
days-17_30 = (record { second = refl; fraction = refl; hour = refl; minute = refl }, refl)

days-two_later : IsDueBy (kind_of daily) daily noon (may_1 + 2 * ticks_a_day + 8 * hours)
days-two_later = (record { second = refl; fraction = refl; hour = refl; minute = refl }, refl)

days-one_later : (day_of (may_1 + ticks_a_day + 8 * hours) - day_of noon) % 2 ≡ 1
days-one_later = refl

days-tick_later : (clock_at (may_1 + 17 * hours + 1)).fraction ≡ 1
days-tick_later = refl

days-second_later : (clock_at (may_1 + 17 * hours + 10000000)).second ≡ 1
days-second_later = refl

days-minute_later : has (or_own (clock_at noon).minute daily.minutes) (clock_at (may_1 + 17 * hours + minutes)).minute ≡ false
days-minute_later = refl

days-hour_later : has (or_own (clock_at noon).hour daily.hours) (clock_at (may_1 + 18 * hours)).hour ≡ false
days-hour_later = refl

-- what the schedule doesn't name is the start's own: the hour, and the minute but not the second
abbrev at_thirty : Recurrence
at_thirty = scheduled Frequency.Day 1 [] (30 ∷ []) []

days-own_hour : IsDueBy (kind_of at_thirty) at_thirty (noon + 5) (may_1 + 12 * hours + 30 * minutes)
days-own_hour = (record { second = refl; fraction = refl; hour = refl; minute = refl }, refl)

abbrev at_eight : Recurrence
at_eight = scheduled Frequency.Day 1 (8 ∷ []) [] []

days-own_minute : IsDueBy (kind_of at_eight) at_eight (noon + 7 * minutes + 10000000) (may_1 + ticks_a_day + 8 * hours + 7 * minutes)
days-own_minute = (record { second = refl; fraction = refl; hour = refl; minute = refl }, refl)

-- every second week at 8:00 on Monday and Friday, from Wednesday, the first of May, on: on the 3rd, the 13th and the 17th
abbrev weekly : Recurrence
weekly = scheduled Frequency.Week 2 (8 ∷ []) (0 ∷ []) (1 ∷ 5 ∷ [])

weeks-friday : IsDueBy (kind_of weekly) weekly may_1 (may_1 + 2 * ticks_a_day + 8 * hours)
weeks-friday = (record { second = refl; fraction = refl; hour = refl; minute = refl }, refl, refl)

weeks-monday : IsDueBy (kind_of weekly) weekly may_1 (may_1 + 12 * ticks_a_day + 8 * hours)
weeks-monday = (record { second = refl; fraction = refl; hour = refl; minute = refl }, refl, refl)

weeks-friday_13 : IsDueBy (kind_of weekly) weekly may_1 (may_1 + 16 * ticks_a_day + 8 * hours)
weeks-friday_13 = (record { second = refl; fraction = refl; hour = refl; minute = refl }, refl, refl)

weeks-next_monday : (week_of (may_1 + 5 * ticks_a_day + 8 * hours) - week_of may_1) % 2 ≡ 1
weeks-next_monday = refl

weeks-saturday : has (or_own (clock_at may_1).weekday weekly.days) (clock_at (may_1 + 3 * ticks_a_day + 8 * hours)).weekday ≡ false
weeks-saturday = refl

-- the weekday of the start, where none is named
abbrev weekly_at_eight : Recurrence
weekly_at_eight = scheduled Frequency.Week 1 (8 ∷ []) [] []

weeks-own_day : IsDueBy (kind_of weekly_at_eight) weekly_at_eight may_1 (may_1 + 7 * ticks_a_day + 8 * hours)
weeks-own_day = (record { second = refl; fraction = refl; hour = refl; minute = refl }, refl, refl)

-- weeks begin on Monday, and 1 January of the year 1 was one: the Sunday after it is of its week, the next day isn't
week-sunday : week_of (6 * ticks_a_day + 23 * hours) ≡ 0
week-sunday = refl

week-monday : week_of (7 * ticks_a_day) ≡ 1
week-monday = refl

weekday-monday : (clock_at 0).weekday ≡ 1
weekday-monday = refl

weekday-sunday : (clock_at (6 * ticks_a_day)).weekday ≡ 0
weekday-sunday = refl

-- the last of January of the year 4, a leap year, at nine: each month is counted from there, and not from the last one
abbrev january_31 : ℕ
january_31 = 972324000000000

months-none : months_later 0 january_31 ≡ Some january_31
unfolding day_at days_of_first_years days_of_months
months-none = refl

months-one : months_later 1 january_31 ≡ Some 997380000000000
unfolding day_at days_of_first_years days_of_months
months-one = refl

months-two : months_later 2 january_31 ≡ Some 1024164000000000
unfolding day_at days_of_first_years days_of_months
months-two = refl

months-three : IsMonthsLater 3 january_31 1050084000000000
unfolding day_at days_of_first_years days_of_months
months-three = (1, refl)

months-behind_9999 : months_later 119964 january_31 ≡ None
unfolding day_at days_of_first_years days_of_months
months-behind_9999 = refl

before-less : is_before 5 (Some 4) ≡ true
before-less = refl

before-same : is_before 5 (Some 5) ≡ false
before-same = refl

before-none : is_before 5 None ≡ false
before-none = refl

-- ---- reading

-- what a row unfolds to be computed
unfoldable computed : ⊤
unfolding digits
computed = tt

abbrev of : List Member → ValueTree
of ms = object (members ms)

abbrev items : List ValueTree → ValueTree
items ts = list (trees ts)

abbrev n : ℕ → ValueTree
n k = number (pos k)

abbrev word : List ℕ → ValueTree
word s = text s

-- a trigger of the members that must be there, with another recurrence, or with or without a member in it
abbrev trigger_of : ValueTree → ValueTree
trigger_of r = of ((codes "recurrence", r) ∷ (codes "type", word (codes "Recurrence")) ∷ [])

abbrev least_members : List Member
least_members = (codes "frequency", word (codes "Day")) ∷ (codes "interval", n 1) ∷ []

abbrev with_member : List ℕ → ValueTree → ValueTree
with_member name v = trigger_of (of (put_named name_of (name, v) least_members))

abbrev without_member : List ℕ → ValueTree
without_member name = trigger_of (of (without_named name_of name least_members))

abbrev with_schedule : List ℕ → ValueTree → ValueTree
with_schedule name v = with_member (codes "schedule") (of ((name, v) ∷ []))

read-least : recurrence_of (trigger_of (of least_members)) ≡ Ok (each Frequency.Day 1)
read-least = refl

read-type : recurrence_of (of ((codes "type", word (codes "Request")) ∷ [])) ≡ Err RecurrenceFault.NotRecurrence
read-type = refl

read-type_case : recurrence_of (of ((codes "type", word (codes "recurrencE")) ∷ [])) ≡ Err (RecurrenceFault.Form (codes "/recurrence"))
read-type_case = refl

read-no_type : recurrence_of (of ((codes "recurrence", of least_members) ∷ [])) ≡ Err RecurrenceFault.NotRecurrence
read-no_type = refl

read-null : recurrence_of null ≡ Err RecurrenceFault.NotRecurrence
read-null = refl

read-no_object : recurrence_of (trigger_of (items [])) ≡ Err (RecurrenceFault.Form (codes "/recurrence"))
read-no_object = refl

read-no_frequency : recurrence_of (without_member (codes "frequency")) ≡ Err (RecurrenceFault.Form (codes "/recurrence/frequency"))
read-no_frequency = refl

read-no_interval : recurrence_of (without_member (codes "interval")) ≡ Err (RecurrenceFault.Form (codes "/recurrence/interval"))
read-no_interval = refl

-- of several places the least is told
read-neither : recurrence_of (trigger_of (of [])) ≡ Err (RecurrenceFault.Form (codes "/recurrence/frequency"))
read-neither = refl

read-year : recurrence_of (with_member (codes "frequency") (word (codes "Year")))
    ≡ Err (RecurrenceFault.Form (codes "/recurrence/frequency"))
read-year = refl

read-second : recurrence_of (with_member (codes "frequency") (word (codes "sEcond"))) ≡ Ok (each Frequency.Second 1)
read-second = refl

read-minute : recurrence_of (with_member (codes "frequency") (word (codes "minute"))) ≡ Ok (each Frequency.Minute 1)
read-minute = refl

read-hour : recurrence_of (with_member (codes "frequency") (word (codes "HOUR"))) ≡ Ok (each Frequency.Hour 1)
read-hour = refl

read-week : recurrence_of (with_member (codes "frequency") (word (codes "Week"))) ≡ Ok (each Frequency.Week 1)
read-week = refl

read-month : recurrence_of (with_member (codes "frequency") (word (codes "Month"))) ≡ Ok (each Frequency.Month 1)
read-month = refl

read-interval_0 : recurrence_of (with_member (codes "interval") (n 0)) ≡ Err (RecurrenceFault.Form (codes "/recurrence/interval"))
read-interval_0 = refl

read-interval_below_0 : interval_of (negsuc 0) ≡ None
read-interval_below_0 = refl

read-interval_greatest : recurrence_of (with_member (codes "interval") (n 9999999)) ≡ Ok (each Frequency.Day 9999999)
read-interval_greatest = refl

read-interval_more : recurrence_of (with_member (codes "interval") (n 10000000)) ≡ Err (RecurrenceFault.Form (codes "/recurrence/interval"))
read-interval_more = refl

read-interval_text : recurrence_of (with_member (codes "interval") (word (codes "1")))
    ≡ Err (RecurrenceFault.Form (codes "/recurrence/interval"))
read-interval_text = refl

read-start : recurrence_of (with_member (codes "startTime") (word (codes "0001-01-01T00:01")))
    ≡ Ok (record (each Frequency.Day 1) { start = Some 600000000 })
unfolding days_of_first_years days_of_months
read-start = refl

read-start_word : recurrence_of (with_member (codes "startTime") (word (codes "now")))
    ≡ Err (RecurrenceFault.Form (codes "/recurrence/startTime"))
read-start_word = refl

read-start_null : recurrence_of (with_member (codes "startTime") null) ≡ Err (RecurrenceFault.Form (codes "/recurrence/startTime"))
read-start_null = refl

read-zone : recurrence_of (with_member (codes "timeZone") (word (codes "utC"))) ≡ Ok (each Frequency.Day 1)
read-zone = refl

read-zone_other : recurrence_of (with_member (codes "timeZone") (word (codes "Pacific Standard Time")))
    ≡ Err (RecurrenceFault.Zone (codes "Pacific Standard Time"))
read-zone_other = refl

read-zone_null : recurrence_of (with_member (codes "timeZone") null) ≡ Err (RecurrenceFault.Form (codes "/recurrence/timeZone"))
read-zone_null = refl

-- the form comes before the zone
read-form_first : recurrence_of (trigger_of (of ((codes "frequency", word (codes "Day")) ∷ (codes "timeZone", word (codes "CET")) ∷ [])))
    ≡ Err (RecurrenceFault.Form (codes "/recurrence/interval"))
read-form_first = refl

read-schedule_empty : recurrence_of (with_member (codes "schedule") (object no_members)) ≡ Ok (each Frequency.Day 1)
read-schedule_empty = refl

read-schedule_list : recurrence_of (with_member (codes "schedule") (items [])) ≡ Err (RecurrenceFault.Form (codes "/recurrence/schedule"))
read-schedule_list = refl

-- one value, or a list, in any order and more than once; an empty one names nothing
read-hours : recurrence_of (with_schedule (codes "hours") (items (n 23 ∷ word (codes "8") ∷ word (codes "08") ∷ n 0 ∷ [])))
    ≡ Ok (scheduled Frequency.Day 1 (0 ∷ 8 ∷ 23 ∷ []) [] [])
read-hours = refl

read-hour_alone : recurrence_of (with_schedule (codes "hours") (word (codes "17"))) ≡ Ok (scheduled Frequency.Day 1 (17 ∷ []) [] [])
read-hour_alone = refl

read-hours_none : recurrence_of (with_schedule (codes "hours") (items [])) ≡ Ok (each Frequency.Day 1)
read-hours_none = refl

read-hour_24 : recurrence_of (with_schedule (codes "hours") (n 24)) ≡ Err (RecurrenceFault.Form (codes "/recurrence/schedule/hours"))
read-hour_24 = refl

read-hours_24 : recurrence_of (with_schedule (codes "hours") (items (n 0 ∷ n 24 ∷ [])))
    ≡ Err (RecurrenceFault.Form (codes "/recurrence/schedule/hours/1"))
unfolding computed
read-hours_24 = refl

read-hours_in_list : recurrence_of (with_schedule (codes "hours") (items (items [] ∷ [])))
    ≡ Err (RecurrenceFault.Form (codes "/recurrence/schedule/hours/0"))
unfolding computed
read-hours_in_list = refl

read-minutes : recurrence_of (with_schedule (codes "minutes") (items (n 59 ∷ word (codes "00") ∷ [])))
    ≡ Ok (scheduled Frequency.Day 1 [] (0 ∷ 59 ∷ []) [])
read-minutes = refl

read-minute_60 : recurrence_of (with_schedule (codes "minutes") (n 60)) ≡ Err (RecurrenceFault.Form (codes "/recurrence/schedule/minutes"))
read-minute_60 = refl

read-weekdays : recurrence_of (with_schedule (codes "weekDays") (items (word (codes "Saturday") ∷ word (codes "SUNDAY") ∷ [])))
    ≡ Ok (scheduled Frequency.Day 1 [] [] (0 ∷ 6 ∷ []))
read-weekdays = refl

read-weekday_short : recurrence_of (with_schedule (codes "weekDays") (word (codes "Mon")))
    ≡ Err (RecurrenceFault.Form (codes "/recurrence/schedule/weekDays"))
read-weekday_short = refl

read-further : recurrence_of (with_schedule (codes "monthDays") (n 5)) ≡ Ok (each Frequency.Day 1)
read-further = refl

-- a schedule that doesn't count is read for its form all the same
read-schedule_unused : recurrence_of (trigger_of (of (
    (codes "frequency", word (codes "Month")) ∷ (codes "interval", n 1)
    ∷ (codes "schedule", of ((codes "hours", n 24) ∷ [])) ∷ []))) ≡ Err (RecurrenceFault.Form (codes "/recurrence/schedule/hours"))
read-schedule_unused = refl

number-three_digits : number_in (word (codes "008")) ≡ None
number-three_digits = refl

number-no_digit : number_in (word []) ≡ None
number-no_digit = refl

number-letter : number_in (word (codes "1a")) ≡ None
number-letter = refl

number-sign : number_in (word (codes "-1")) ≡ None
number-sign = refl

number-below_0 : number_in (number (negsuc 0)) ≡ None
number-below_0 = refl

number-Boolean : number_in (boolean true) ≡ None
number-Boolean = refl

place-monday : place_in Part.WeekDay (word (codes "monday")) ≡ Some 1
place-monday = refl

place-tuesday : place_in Part.WeekDay (word (codes "Tuesday")) ≡ Some 2
place-tuesday = refl

place-wednesday : place_in Part.WeekDay (word (codes "wednesdaY")) ≡ Some 3
place-wednesday = refl

place-thursday : place_in Part.WeekDay (word (codes "Thursday")) ≡ Some 4
place-thursday = refl

place-friday : place_in Part.WeekDay (word (codes "Friday")) ≡ Some 5
place-friday = refl

place-weekday_number : place_in Part.WeekDay (n 1) ≡ None
place-weekday_number = refl
