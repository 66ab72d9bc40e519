-- The next moments of a recurrence as a list: of all moments of the years 1 to 9999 from one on those that are due, and of these the first.
-- It is a definition only: no one goes over all moments.
use Rattle.std.specs.Prelude.{ℕ, zero, suc, ◌+◌, ◌-◌, ◌*◌, ◌%◌, Bool, false, ◌&&◌, ◌||◌, ◌==◌, List, take, Option, Some, None, nat_le}
use Rattle.std.specs.List.{filter, range_with_len}
use Rattle.wf_fn_time.specs.Clock.{clock_at}
use Rattle.wf_fn_time.specs.Moments.{last_tick}
use Rattle.wf_recur.specs.Due.{day_of, kind_of, months_later, start_or, week_of}
use Rattle.wf_recur.specs.Sets.{has, or_own}
use Rattle.wf_recur.specs.declared.recurrence.Kind.{Kind}
use Rattle.wf_recur.specs.declared.recurrence.Recurrence.{Recurrence}

-- one of the numbers below a bound passes a test
unfoldable pub any_below : (ℕ → Bool) → ℕ → Bool
any_below test zero = false
any_below test (suc n) = any_below test n || test n

abbrev pub is_moment : ℕ → Option ℕ → Bool
is_moment m None = false
is_moment m (Some k) = k == m

-- all years have fewer months than 120,000
abbrev pub is_months_later : ℕ → ℕ → ℕ → Bool
is_months_later interval b m = any_below (λ k. is_moment m (months_later (k * interval) b)) 120000

abbrev pub is_full_minute : ℕ → Bool
is_full_minute m = ((clock_at m).second == 0) && ((clock_at m).fraction == 0)

abbrev pub is_hour : Recurrence → ℕ → ℕ → Bool
is_hour r b m = has (or_own (clock_at b).hour r.hours) (clock_at m).hour

abbrev pub is_minute : Recurrence → ℕ → ℕ → Bool
is_minute r b m = has (or_own (clock_at b).minute r.minutes) (clock_at m).minute

abbrev pub is_weekday : Recurrence → ℕ → ℕ → Bool
is_weekday r b m = has (or_own (clock_at b).weekday r.days) (clock_at m).weekday

abbrev pub is_on_schedule : Recurrence → ℕ → ℕ → Bool
is_on_schedule r b m = is_full_minute m && (is_hour r b m && is_minute r b m)

-- `IsDueBy` as a test
abbrev pub is_due_by : Kind → Recurrence → ℕ → ℕ → Bool
is_due_by (Kind.Steps unit) r b m = (m - b) % (r.interval * unit) == 0
is_due_by Kind.Months r b m = is_months_later r.interval b m
is_due_by Kind.Days r b m = is_on_schedule r b m && ((day_of m - day_of b) % r.interval == 0)
is_due_by Kind.Weeks r b m = is_on_schedule r b m && (is_weekday r b m && ((week_of m - week_of b) % r.interval == 0))

-- and `IsDue`
abbrev pub is_due : Recurrence → ℕ → ℕ → Bool
is_due r b m = nat_le m last_tick && (nat_le b m && is_due_by (kind_of r) r b m)

-- the first n due from a moment on
unfoldable pub moments_due : Recurrence → ℕ → ℕ → List ℕ
moments_due r from n = take n (filter (is_due r (start_or r from)) (range_with_len from (last_tick + 1 - from)))
