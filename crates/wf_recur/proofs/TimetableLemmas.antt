-- Minutes of a schedule, and the moments that they are.
use Rattle.std.proofs.Common.{◌≡◌, ◌⊎◌, inl, inr, ℕ, ◌+◌, ◌-◌, ◌*◌, ◌/◌, ◌%◌, ◌<◌, ◌≤◌, Bool, true, false, Option, Some, None}
use Rattle.std.proofs.Common.{sym, ap, ◌∙◌, subst, arith}
use Rattle.std.proofs.lemmas.Bool.{cases_lt, cond-true, le-leb}
use Rattle.std.specs.Prelude.{if◌then◌else◌}
use Rattle.wf_fn_time.specs.Clock.{clock_at}
use Rattle.wf_fn_time.specs.Moments.{last_tick, moment}
use Rattle.wf_recur.specs.Due.{IsDue, IsDueBy, IsOnSchedule, day_of, kind_of, week_of}
use Rattle.wf_recur.specs.Next.{IsLeastFrom}
use Rattle.wf_recur.specs.Sets.{has, or_own}
use Rattle.wf_recur.specs.Timetable.{IsDueDay, IsDueMinute, IsDueTime, IsFromStart, IsFromStartBy, Passes, last_minute, timetable_of}
use Rattle.wf_recur.specs.declared.recurrence.Kind.{Kind}
use Rattle.wf_recur.specs.declared.recurrence.Recurrence.{Recurrence}
use Rattle.wf_recur.specs.declared.timetable.Timetable.{Timetable}

full : (m : ℕ) → m / 10000000 % 60 ≡ 0 → m % 10000000 ≡ 0 → m / 600000000 * 600000000 ≡ m
full m second fraction = omega arith

day-is : (m : ℕ) → m / 864000000000 ≡ m / 600000000 / 1440
day-is m = omega arith

hour-is : (m : ℕ) → m / 36000000000 ≡ m / 600000000 / 60
hour-is m = omega arith

minute-of : (y : ℕ) → y * 600000000 / 600000000 ≡ y
minute-of y = omega arith

-- on the schedule is a full minute that is due by its hour and its place in it
to-time : (r : Recurrence) (w : Bool) (b m : ℕ) → IsOnSchedule r b m → IsDueTime (timetable_of r w b) (m / 600000000)
to-time r w b m on = (
  ap (λ h. has (or_own (clock_at b).hour r.hours) (h % 24)) (sym (hour-is m)) ∙ on.hour,
  on.minute,
)

from-time : (r : Recurrence) (w : Bool) (b y : ℕ) → IsDueTime (timetable_of r w b) y → IsOnSchedule r b (y * 600000000)
from-time r w b y due = record {
  second = omega arith;
  fraction = omega arith;
  hour = let hour : y * 600000000 / 36000000000 ≡ y / 60 = omega arith in
      ap (λ h. has (or_own (clock_at b).hour r.hours) (h % 24)) hour ∙ due.0;
  minute = ap (λ k. has (or_own (clock_at b).minute r.minutes) (k % 60)) (minute-of y) ∙ due.1;
}

abbrev kind : Bool → Kind
kind w = if w then Kind.Weeks else Kind.Days

-- a moment that is due is a minute that is due
to-minute-by : (w : Bool) (r : Recurrence) (b m : ℕ) → IsDueBy (kind w) r b m
    → (m / 600000000 * 600000000 ≡ m) × IsDueMinute (timetable_of r w b) (m / 600000000)
to-minute-by false r b m due = (
  full m due.0.second due.0.fraction,
  (ap (λ d. (d - day_of b) % r.interval) (sym (day-is m)) ∙ due.1, to-time r false b m due.0),
)
to-minute-by true r b m due = (
  full m due.0.second due.0.fraction,
  (
    (
      ap (λ d. (d / 7 - week_of b) % r.interval) (sym (day-is m)) ∙ due.2,
      ap (λ d. has (or_own (clock_at b).weekday r.days) ((d + 1) % 7)) (sym (day-is m)) ∙ due.1,
    ),
    to-time r true b m due.0,
  ),
)

from-minute-by : (w : Bool) (r : Recurrence) (b y : ℕ) → IsDueMinute (timetable_of r w b) y → IsDueBy (kind w) r b (y * 600000000)
from-minute-by false r b y due =
    let day : y * 600000000 / 864000000000 ≡ y / 1440 = omega arith in
    (from-time r false b y due.1, ap (λ d. (d - day_of b) % r.interval) day ∙ due.0)
from-minute-by true r b y due =
    let day : y * 600000000 / 864000000000 ≡ y / 1440 = omega arith in (
      from-time r true b y due.1,
      ap (λ d. has (or_own (clock_at b).weekday r.days) ((d + 1) % 7)) day ∙ due.0.1,
      ap (λ d. (d / 7 - week_of b) % r.interval) day ∙ due.0.0,
    )

to-minute : (w : Bool) (r : Recurrence) (b m : ℕ) → kind_of r ≡ kind w → IsDue r b m
    → (m / 600000000 * 600000000 ≡ m) × IsDueMinute (timetable_of r w b) (m / 600000000)
to-minute w r b m is due =
    let P : Kind → Type 0 = λ k. IsDueBy k r b m in
    to-minute-by w r b m (subst P is due.by_kind)

from-minute : (w : Bool) (r : Recurrence) (b y : ℕ) → kind_of r ≡ kind w → IsDueMinute (timetable_of r w b) y
    → IsDueBy (kind_of r) r b (y * 600000000)
from-minute w r b y is due =
    let P : Kind → Type 0 = λ k. IsDueBy k r b (y * 600000000) in
    subst P (sym is) (from-minute-by w r b y due)

abbrev pub IsDueInYears : Timetable → ℕ → Type 0
IsDueInYears t minute = (minute ≤ last_minute) × IsDueMinute t minute

-- where no minute from one on is due no moment from there on is
pub none-scheduled : (w : Bool) (r : Recurrence) (b at from : ℕ) → kind_of r ≡ kind w → at ≤ from * 600000000
    → from * 600000000 < at + 600000000
    → IsLeastFrom (IsDueInYears (timetable_of r w b)) from None → IsLeastFrom (IsDue r b) at None
none-scheduled w r b at from is low high none = λ m due le.
    let minute = to-minute w r b m is due in
    none (m / 600000000) (omega (arith, due.in_years), minute.1) (omega (arith, minute.0, le, high))

-- and the first minute due is the first moment due
pub scheduled : (w : Bool) (r : Recurrence) (b at from y : ℕ) → kind_of r ≡ kind w → b ≤ at → at ≤ from * 600000000
    → from * 600000000 < at + 600000000 → IsLeastFrom (IsDueInYears (timetable_of r w b)) from (Some y)
    → IsLeastFrom (IsDue r b) at (moment (y * 600000000))
scheduled w r b at from y is start low high least =
    let within : y * 600000000 ≤ last_tick = omega (arith, least.0.0) in
    let late : at ≤ y * 600000000 = omega (arith, least.1, low) in
    let P : Option ℕ → Type 0 = λ m. IsLeastFrom (IsDue r b) at m in
    subst P (sym (cond-true _ _ _ (le-leb (y * 600000000) last_tick within))) (
      record { in_years = within; from_start = omega (arith, start, late); by_kind = from-minute w r b y is least.0.1 },
      late,
      λ m due le.
          let minute = to-minute w r b m is due in
          let first : y ≤ m / 600000000 =
          least.2 (m / 600000000) (omega (arith, due.in_years), minute.1) (omega (arith, minute.0, le, high)) in
          omega (arith, first, minute.0),
    )

-- a minute from a start on is of a day from its day on
pub from-start : (w : Bool) (r : Recurrence) (b at from : ℕ) → b ≤ at → at ≤ from * 600000000
    → IsFromStart (timetable_of r w b) (from / 1440)
from-start false r b at from start low = omega (arith, start, low)
from-start true r b at from start low = omega (arith, start, low)

later-by : (w : Bool) (t : Timetable) (d e : ℕ) → d ≤ e → IsFromStartBy w t d → IsFromStartBy w t e
later-by false t d e le from = omega (arith, le, from)
later-by true t d e le from = omega (arith, le, from)

-- and so are later days
pub from-later : (t : Timetable) (d e : ℕ) → d ≤ e → IsFromStart t d → IsFromStart t e
from-later t d e le from = later-by t.is_weekly t d e le from

pub least-of-none : (t : Timetable) (from minute : ℕ) → last_minute < minute
    → ((k : ℕ) → from ≤ k → k < minute → IsDueMinute t k → ⊥) → IsLeastFrom (IsDueInYears t) from None
least-of-none t from minute end none = λ k due le. none k le (omega (arith, due.0, end)) due.1

least-by : (t : Timetable) (from minute k : ℕ) → ((k : ℕ) → from ≤ k → k < minute → IsDueMinute t k → ⊥) → IsDueMinute t k → from ≤ k
    → (k < minute) ⊎ (minute ≤ k) → minute ≤ k
least-by t from minute k none due le (inl early) = absurd (none k le early due)
least-by t from minute k none due le (inr late) = late

pub least-of-some : (t : Timetable) (from minute : ℕ) → minute ≤ last_minute → from ≤ minute
    → ((k : ℕ) → from ≤ k → k < minute → IsDueMinute t k → ⊥) → IsDueMinute t minute → IsLeastFrom (IsDueInYears t) from (Some minute)
least-of-some t from minute within on none due =
    ((within, due), on, λ k is le. least-by t from minute k none is.1 le (cases_lt k minute))

passed-by : (t : Timetable) (from minute further k : ℕ) → ((k : ℕ) → from ≤ k → k < minute → IsDueMinute t k → ⊥)
    → Passes (IsDueMinute t) minute (Some further) → from ≤ k → k < further → IsDueMinute t k → (k < minute) ⊎ (minute ≤ k) → ⊥
passed-by t from minute further k none passes le lt due (inl early) = none k le early due
passed-by t from minute further k none passes le lt due (inr late) = passes.1 k late lt due

-- what is passed joins what was passed before
pub passed-more : (t : Timetable) (from minute further : ℕ) → ((k : ℕ) → from ≤ k → k < minute → IsDueMinute t k → ⊥)
    → Passes (IsDueMinute t) minute (Some further) → (k : ℕ) → from ≤ k → k < further → IsDueMinute t k → ⊥
passed-more t from minute further none passes k le lt due = passed-by t from minute further k none passes le lt due (cases_lt k minute)

-- a minute of a day that isn't due isn't due, up to the day from which on to look further
pub day-passed : (t : Timetable) (minute day : ℕ) → Passes (IsDueDay t) (minute / 1440) (Some day)
    → Passes (IsDueMinute t) minute (Some (day * 1440))
day-passed t minute day passes = (
  omega (arith, passes.0),
  λ k le lt due. passes.1 (k / 1440) (omega (arith, le)) (omega (arith, lt)) due.0,
)

pub time-passed : (t : Timetable) (minute further : ℕ) → Passes (IsDueTime t) minute (Some further)
    → Passes (IsDueMinute t) minute (Some further)
time-passed t minute further passes = (passes.0, λ k le lt due. passes.1 k le lt due.1)

pub time-due : (t : Timetable) (minute : ℕ) → IsDueDay t (minute / 1440) → (o : Option ℕ) → Passes (IsDueTime t) minute o
    → Passes (IsDueMinute t) minute o
time-due t minute day (Some further) passes = time-passed t minute further passes
time-due t minute day None due = (day, due)
