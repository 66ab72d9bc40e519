-- The day that is so many days after 1 January of the year 1, by its year, its month and its place in the month.
use Rattle.std.proofs.Common.{◌≡◌, ℕ, zero, suc, ◌+◌, ◌-◌, ◌<◌, ◌≤◌, refl, sym, ◌∙◌, ap, arith, subst, nat_lt}
use Rattle.std.proofs.lemmas.Bool.{cond-true, cond-false, lt-ltb}
use Rattle.std.proofs.lemmas.Bool.Decides.{nat_tests}
use Rattle.std.specs.Prelude.{ℤ, pos, negsuc, neg_ℤ, ◌+ℤ◌, ◌≤ℤ◌, ◌<ℤ◌, unsigned_abs}
use Rattle.std.proofs.Common.{inl, inr, ◌⊎◌, rules}
use Rattle.jiff_core.specs.declared.civil.date.Date.{Date}
use Rattle.jiff_core.specs.Date.{epoch_day}
use Rattle.jiff_core.specs.Calendar.{days_from_civil, day_count, days_of_years, day_of_year}
use Rattle.jiff_core.proofs.DateLemmas.{days_from_civil-next_year, epoch_day-lt, civil}
use Rattle.jiff_core.proofs.SignedLemmas.{signed_arith}
use Rattle.jiff_core.specs.Calendar.{days_in_month, days_in_year, days_of_months}
use Rattle.wf_fn_time.specs.declared.calendar.Day.{Day}
use Rattle.jiff_core.specs.Calendar.{IsCivilDate}
use Rattle.std.proofs.Common.{true}
use Rattle.wf_fn_time.specs.Calendar.{is_day, place_in_year, date_day, day_after, day_at, days_of_first_years, day_number}

abbrev day : ℕ → ℕ → ℕ → Day
day y m d = record { year = y; month = m; day = d }

-- one day on
next : (n k y m d : ℕ) (to : Day) → day_at (n + k) ≡ day y m d → day_after (day y m d) ≡ to → day_at (n + suc k) ≡ to
unfolding day_at
next n k y m d to at after =
    let more : n + suc k ≡ suc (n + k) = omega arith in
    ap day_at more ∙ ap day_after at ∙ after

after-in_month : (y m d : ℕ) → d < days_in_month (pos y) m → day_after (day y m d) ≡ day y m (suc d)
after-in_month y m d lt = cond-true (nat_lt d (days_in_month (pos y) m)) _ _ (lt-ltb d (days_in_month (pos y) m) lt)

after-month : (y m : ℕ) → m < 12 → day_after (day y m (days_in_month (pos y) m)) ≡ day y (suc m) 1
after-month y m lt = cond-false (nat_lt (days_in_month (pos y) m) (days_in_month (pos y) m)) _ _ (grind (arith, nat_tests))
    ∙ cond-true (nat_lt m 12) _ _ (lt-ltb m 12 lt)

-- further on in the month
in_month : (y m n k : ℕ) → day_at n ≡ day y m 1 → suc k ≤ days_in_month (pos y) m → day_at (n + k) ≡ day y m (suc k)
in_month y m n zero at le = let e : n + 0 ≡ n = omega arith in ap day_at e ∙ at
in_month y m n (suc k) at le =
    next n k y m (suc k) _ (in_month y m n k at (omega (arith, le))) (after-in_month y m (suc k) (omega (arith, le)))

pub long_month : (y m : ℕ) → 1 ≤ days_in_month (pos y) m
long_month y m = grind (arith, nat_tests)

-- further on in the year
in_year : (y n k : ℕ) → day_at n ≡ day y 1 1 → k ≤ 11 → day_at (n + days_of_months (pos y) k) ≡ day y (suc k) 1
unfolding days_of_months
in_year y n zero at le = let e : n + 0 ≡ n = omega arith in ap day_at e ∙ at
in_year y n (suc k) at le =
    let first = in_year y n k at (omega (arith, le)) in
    let long : 1 ≤ days_in_month (pos y) (suc k) = long_month y (suc k) in
    let last : day_at (n + days_of_months (pos y) k + (days_in_month (pos y) (suc k) - 1)) ≡ day y (suc k) (days_in_month (pos y) (suc k)) =
    in_month y (suc k) (n + days_of_months (pos y) k) (days_in_month (pos y) (suc k) - 1) first (omega (arith, long))
    ∙ ap (day y (suc k)) (omega (arith, long)) in
    let e : n + (days_of_months (pos y) k + days_in_month (pos y) (suc k))
    ≡ n + days_of_months (pos y) k + suc (days_in_month (pos y) (suc k) - 1) = omega (arith, long) in
    ap day_at e
    ∙ next (n + days_of_months (pos y) k) (days_in_month (pos y) (suc k) - 1) y (suc k) _ _ last (after-month y (suc k) (omega (arith, le)))

-- a year is its months
long_year : (y : ℕ) → days_of_months (pos y) 11 + 31 ≡ days_in_year (pos y)
unfolding days_of_months
long_year y = grind arith

-- from year to year
at_year : (i : ℕ) → day_at (days_of_first_years i) ≡ day (suc i) 1 1
unfolding day_at days_of_first_years
at_year zero = refl
at_year (suc i) =
    let december = in_year (suc i) (days_of_first_years i) 11 (at_year i) (omega arith) in
    let last : day_at (days_of_first_years i + days_of_months (pos (suc i)) 11 + 30)
    ≡ day (suc i) 12 31 = in_month (suc i) 12 (days_of_first_years i + days_of_months (pos (suc i)) 11) 30 december (omega arith) in
    let e : days_of_first_years i + days_in_year (pos (suc i))
    ≡ days_of_first_years i + days_of_months (pos (suc i)) 11 + suc 30 = omega (arith, long_year (suc i)) in
    ap day_at e ∙ next (days_of_first_years i + days_of_months (pos (suc i)) 11) 30 (suc i) 12 31 _ last refl

-- the day of the number of a day is the day
pub day_at-number : (y m d : ℕ) → 1 ≤ y → 1 ≤ m → m ≤ 12 → 1 ≤ d → d ≤ days_in_month (pos y) m → day_at (day_number (day y m d)) ≡ day y m d
day_at-number y m d hy hm lm hd ld =
    let year : suc (y - 1) ≡ y = omega (arith, hy) in
    let month : suc (m - 1) ≡ m = omega (arith, hm) in
    let place : suc (d - 1) ≡ d = omega (arith, hd) in
    let first : day_at (days_of_first_years (y - 1)) ≡ day y 1 1 = at_year (y - 1) ∙ ap (λ z. day z 1 1) year in
    let of_month : day_at (days_of_first_years (y - 1) + days_of_months (pos y) (m - 1))
    ≡ day y m 1 = in_year y (days_of_first_years (y - 1)) (m - 1) first (omega (arith, lm)) ∙ ap (λ k. day y k 1) month in
    let e : days_of_first_years (y - 1) + (days_of_months (pos y) (m - 1) + d - 1)
    ≡ days_of_first_years (y - 1) + days_of_months (pos y) (m - 1) + (d - 1) = omega (arith, hd) in
    ap day_at e ∙ in_month y m (days_of_first_years (y - 1) + days_of_months (pos y) (m - 1)) (d - 1) of_month (omega (arith, hd, ld))
    ∙ ap (day y m) place

-- the library counts from 1970
first_day : days_from_civil (pos 1) 1 1 ≡ neg_ℤ (pos 719162)
unfolding days_from_civil day_count days_of_years days_of_months
first_day = refl

-- from the first of a year
in_civil : (y m d : ℕ) → 1 ≤ d → days_from_civil (pos y) m d ≡ days_from_civil (pos y) 1 1 +ℤ pos (day_of_year (pos y) m d - 1)
unfolding days_from_civil day_count days_of_months
in_civil y m d h = omega (arith, signed_arith)

civil_year : (i : ℕ) → days_from_civil (pos (suc i)) 1 1 +ℤ pos 719162 ≡ pos (days_of_first_years i)
unfolding days_of_first_years
civil_year zero = omega (arith, signed_arith, first_day)
civil_year (suc i) =
    let next = days_from_civil-next_year (pos (suc i)) (pos (suc (suc i))) (omega (arith, signed_arith)) (omega (arith, signed_arith)) in
    let december = in_civil (suc i) 12 31 (omega arith) in
    omega (arith, signed_arith, next, december, civil_year i, long_year (suc i))

first_date : Date
first_date = record { year = pos 1; month = 1; day = 1; year_in = search rules; month_in = search rules; day_in = search rules }

lt_or_le : (z : ℤ) → (z <ℤ pos 1) ⊎ (pos 1 ≤ℤ z)
lt_or_le (pos zero) = inl (omega (arith, signed_arith))
lt_or_le (pos (suc n)) = inr (omega (arith, signed_arith))
lt_or_le (negsuc n) = inl (omega (arith, signed_arith))

-- a date whose day number isn't negative is of a year from 1 on
year_case : (d : Date) (n : ℕ) → epoch_day d +ℤ pos 719162 ≡ pos n → (d.year <ℤ pos 1) ⊎ (pos 1 ≤ℤ d.year) → pos 1 ≤ℤ d.year
unfolding first_date
year_case d n is (inr from) = from
year_case d n is (inl before) = let earlier =
    epoch_day-lt d first_date (inl before) in absurd (omega (arith, signed_arith, earlier, is, first_day))

pub year_from_1 : (d : Date) (n : ℕ) → epoch_day d +ℤ pos 719162 ≡ pos n → pos 1 ≤ℤ d.year
year_from_1 d n is = year_case d n is (lt_or_le d.year)

at_date : (d : Date) (n i : ℕ) → epoch_day d +ℤ pos 719162 ≡ pos n → d.year ≡ pos (suc i) → day_at n ≡ day (suc i) d.month d.day
at_date d n i is year =
    let parts = civil d in
    let longest : d.day ≤ days_in_month (pos (suc i)) d.month = subst (λ y. d.day ≤ days_in_month y d.month) year parts.2.1 in
    let number : epoch_day d ≡ days_from_civil (pos (suc i)) d.month d.day = ap (λ y. days_from_civil y d.month d.day) year in
    let less : suc i - 1 ≡ i = omega arith in
    let summed : days_of_first_years i + (day_of_year (pos (suc i)) d.month d.day - 1)
    ≡ n = omega (arith, signed_arith, is, number, in_civil (suc i) d.month d.day parts.2.0, civil_year i) in
    let counted : day_number (day (suc i) d.month d.day)
    ≡ n = ap (λ k. days_of_first_years k + (day_of_year (pos (suc i)) d.month d.day - 1)) less ∙ summed in
    ap day_at (sym counted) ∙ day_at-number (suc i) d.month d.day (omega arith) parts.1.0 parts.1.1 parts.2.0 longest

with_year : (d : Date) (n : ℕ) (z : ℤ) → epoch_day d +ℤ pos 719162 ≡ pos n → d.year ≡ z → pos 1 ≤ℤ z → day_at n ≡ date_day d
with_year d n (pos zero) is year from = absurd (omega (arith, signed_arith, from))
with_year d n (pos (suc i)) is year from = at_date d n i is year ∙ ap (λ y. day (unsigned_abs y) d.month d.day) (sym year)
with_year d n (negsuc k) is year from = absurd (omega (arith, signed_arith, from))

-- the day of the number of a date is the date's
pub date_at-number : (d : Date) (n : ℕ) → epoch_day d +ℤ pos 719162 ≡ pos n → day_at n ≡ date_day d
date_at-number d n is = with_year d n d.year is refl (year_from_1 d n is)

number_from : (y m d i : ℕ) → y ≡ suc i → 1 ≤ d → days_from_civil (pos y) m d +ℤ pos 719162 ≡ pos (day_number (day y m d))
number_from y m d i is h =
    let less : y - 1 ≡ i = omega (arith, is) in
    let civil : days_from_civil (pos y) m d ≡ days_from_civil (pos (suc i)) 1 1 +ℤ pos (day_of_year (pos y) m d - 1) =
    in_civil y m d h ∙ ap (λ k. days_from_civil (pos k) 1 1 +ℤ pos (day_of_year (pos y) m d - 1)) is in
    let first : days_of_first_years (y - 1) ≡ days_of_first_years i = ap days_of_first_years less in
    omega (arith, signed_arith, civil, civil_year i, first)

number-from_1970 : (y m d : ℕ) → 1 ≤ y → 1 ≤ d → days_from_civil (pos y) m d +ℤ pos 719162 ≡ pos (day_number (day y m d))
number-from_1970 y m d hy hd = number_from y m d (y - 1) (omega (arith, hy)) hd

-- the library counts the days of a date from 1 January of the year -9999
pub number-of_date : (date : Date) (y m d n : ℕ) → date.year ≡ pos y → date.month ≡ m → date.day ≡ d → 1 ≤ y → 1 ≤ d
    → epoch_day date +ℤ pos 4371587 ≡ pos n → n ≡ day_number (day y m d) + 3652425
number-of_date date y m d n year month place hy hd counted =
    let parts : epoch_day date ≡ days_from_civil (pos y) m d = cc in
    omega (arith, signed_arith, parts, counted, number-from_1970 y m d hy hd)

is_day-from : (d : Date) (i : ℕ) → d.year ≡ pos (suc i) → IsCivilDate d.year d.month d.day → is_day (date_day d) ≡ true
is_day-from d i year parts =
    let absolute : unsigned_abs d.year ≡ suc i = ap unsigned_abs year in
    let last : suc i ≤ 9999 = omega (arith, signed_arith, parts.0, year) in
    let longest : d.day ≤ days_in_month (pos (suc i)) d.month = subst (λ y. d.day ≤ days_in_month y d.month) year parts.2.1 in
    let here : is_day (record { year = suc i; month = d.month; day = d.day })
    ≡ true = grind (arith, nat_tests, parts.1.0, parts.1.1, parts.2.0) in
    ap (λ y. is_day (record { year = y; month = d.month; day = d.day })) absolute ∙ here

is_day-year : (d : Date) (z : ℤ) → d.year ≡ z → pos 1 ≤ℤ z → is_day (date_day d) ≡ true
is_day-year d (pos zero) year from = absurd (omega (arith, signed_arith, from))
is_day-year d (pos (suc i)) year from = is_day-from d i year (civil d)
is_day-year d (negsuc k) year from = absurd (omega (arith, signed_arith, from))

-- a date of a year from 1 on is a day of the calendar
pub is_day-date : (d : Date) → pos 1 ≤ℤ d.year → is_day (date_day d) ≡ true
is_day-date d from = is_day-year d d.year refl from

place-year : (d : Date) (z : ℤ) → d.year ≡ z → pos 1 ≤ℤ z → day_of_year d.year d.month d.day ≡ place_in_year (date_day d)
place-year d (pos zero) year from = absurd (omega (arith, signed_arith, from))
place-year d (pos (suc i)) year from =
    let whole : d.year ≡ pos (unsigned_abs d.year) = year ∙ ap (λ z. pos (unsigned_abs z)) (sym year) in
    ap (λ y. day_of_year y d.month d.day) whole
place-year d (negsuc k) year from = absurd (omega (arith, signed_arith, from))

pub place-date : (d : Date) → pos 1 ≤ℤ d.year → day_of_year d.year d.month d.day ≡ place_in_year (date_day d)
place-date d from = place-year d d.year refl from

number-year : (d : Date) (n : ℕ) (z : ℤ) → epoch_day d +ℤ pos 719162 ≡ pos n → d.year ≡ z → pos 1 ≤ℤ z → day_number (date_day d) ≡ n
number-year d n (pos zero) is year from = absurd (omega (arith, signed_arith, from))
number-year d n (pos (suc i)) is year from =
    let civil_day = civil d in
    let number : epoch_day d ≡ days_from_civil (pos (suc i)) d.month d.day = ap (λ y. days_from_civil y d.month d.day) year in
    let counted : day_number (day (suc i) d.month d.day)
    ≡ n = omega (arith, signed_arith, is, number, number-from_1970 (suc i) d.month d.day (omega arith) civil_day.2.0) in
    ap (λ y. day_number (day (unsigned_abs y) d.month d.day)) year ∙ counted
number-year d n (negsuc k) is year from = absurd (omega (arith, signed_arith, from))

-- the number of a date's day, which the library counts from 1970
pub number-date : (d : Date) (n : ℕ) → epoch_day d +ℤ pos 719162 ≡ pos n → day_number (date_day d) ≡ n
number-date d n is = number-year d n d.year is refl (year_from_1 d n is)
