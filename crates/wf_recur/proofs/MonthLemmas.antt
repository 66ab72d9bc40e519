-- Moments that are so many months behind a start: more months lead no further back.
use Rattle.std.proofs.Common.{◌≡◌, ◌⊎◌, inl, inr, ℕ, zero, suc, ◌+◌, ◌-◌, ◌*◌, ◌/◌, ◌%◌, ◌<◌, ◌≤◌, Bool, true, false, cond, Option, Some}
use Rattle.std.proofs.Common.{None, refl, sym, ap, ◌∙◌, subst, arith, min}
use Rattle.std.specs.Prelude.{pos, ◌&&◌, nat_le, nat_lt, option_map}
use Rattle.std.proofs.lemmas.Bool.{and_from, and_parts, cases_lt, cond-true, le-leb, lt-ltb, ltb-true, ltb-false}
use Rattle.std.proofs.lemmas.Nat.{mul-le}
use Rattle.jiff_core.specs.Calendar.{days_in_month, days_in_year, days_of_months}
use Rattle.wf_fn_time.specs.Calendar.{day_at, day_number, days_of_first_years}
use Rattle.wf_fn_time.specs.Moments.{ticks_a_day}
use Rattle.wf_fn_time.specs.Moving.{at_month, day_in_month, month_in_years, month_number}
use Rattle.wf_fn_time.specs.declared.calendar.Day.{Day}
use Rattle.wf_recur.specs.Due.{IsMonthsLater, months_later}
use Rattle.wf_recur.specs.Next.{IsLeastFrom, is_before}

-- how many days are before a day of a month, or before its last; months count from 0
abbrev days_before : ℕ → ℕ → ℕ → ℕ
days_before day year month =
    days_of_first_years (year - 1) + (days_of_months (pos year) month + min day (days_in_month (pos year) (suc month)) - 1)

in_year : (a m d long more : ℕ) → a + (m + min d long - 1) ≤ a + (m + long + more - 1)
in_year a m d long more = omega arith

next_month : (day year month : ℕ) → days_before day year month ≤ days_before day year (suc month)
unfolding days_of_months
next_month day year month =
    in_year (days_of_first_years (year - 1)) (days_of_months (pos year) month) day (days_in_month (pos year) (suc month))
    (min day (days_in_month (pos year) (suc (suc month))))

-- a year is its months
long_year : (y : ℕ) → days_of_months (pos y) 11 + 31 ≡ days_in_year (pos y)
unfolding days_of_months
long_year y = grind arith

over_year : (a b m d long more first : ℕ) → b ≡ a + long → m + 31 ≡ long → first ≡ 0 → a + (m + min d 31 - 1) ≤ b + (first + more - 1)
over_year a b m d long more first is whole none = omega arith

next_year : (day i : ℕ) → days_before day (suc i) 11 ≤ days_before day (suc (suc i)) 0
unfolding days_of_first_years days_of_months
next_year day i =
    let a : suc i - 1 ≡ i = omega arith in
    let b : suc (suc i) - 1 ≡ suc i = omega arith in
    let grown : days_of_first_years (suc (suc i) - 1) ≡ days_of_first_years (suc i - 1) + days_in_year (pos (suc i)) =
    ap days_of_first_years b ∙ ap (λ k. days_of_first_years k + days_in_year (pos (suc i))) (sym a) in
    over_year (days_of_first_years (suc i - 1)) (days_of_first_years (suc (suc i) - 1)) (days_of_months (pos (suc i)) 11) day
    (days_in_year (pos (suc i))) (min day (days_in_month (pos (suc (suc i))) 1)) 0 grown (long_year (suc i)) refl

-- the same by the number of the month from January of the year 0
number-is : (day k : ℕ) → day_number (day_in_month day k) ≡ days_before day (k / 12) (k % 12)
number-is day k =
    let less : k % 12 + 1 - 1 ≡ k % 12 = omega arith in
    let more : k % 12 + 1 ≡ suc (k % 12) = omega arith in
    let first = days_of_first_years (k / 12 - 1) in
    ap (λ m. first + (days_of_months (pos (k / 12)) m + min day (days_in_month (pos (k / 12)) (k % 12 + 1)) - 1)) less
    ∙ ap (λ m. first + (days_of_months (pos (k / 12)) (k % 12) + min day (days_in_month (pos (k / 12)) m) - 1)) more

at-place : (day k y m : ℕ) → k / 12 ≡ y → k % 12 ≡ m → day_number (day_in_month day k) ≡ days_before day y m
at-place day k y m year month =
    number-is day k ∙ ap (λ z. days_before day z (k % 12)) year ∙ ap (days_before day y) month

step-by : (day k y m : ℕ) → 1 ≤ y → k ≡ y * 12 + m → (m < 11) ⊎ (m ≡ 11)
    → day_number (day_in_month day k) ≤ day_number (day_in_month day (suc k))
step-by day k y m from is (inl lt) =
    let here = at-place day k y m (omega (arith, is, lt)) (omega (arith, is, lt)) in
    let there = at-place day (suc k) y (suc m) (omega (arith, is, lt)) (omega (arith, is, lt)) in
    omega (arith, here, there, next_month day y m)
step-by day k y m from is (inr last) =
    let i : suc (y - 1) ≡ y = omega (arith, from) in
    let here : day_number (day_in_month day k) ≡ days_before day (suc (y - 1)) 11 =
    at-place day k (suc (y - 1)) 11 (omega (arith, is, last, i)) (omega (arith, is, last)) in
    let there : day_number (day_in_month day (suc k)) ≡ days_before day (suc (suc (y - 1))) 0 =
    at-place day (suc k) (suc (suc (y - 1))) 0 (omega (arith, is, last, i)) (omega (arith, is, last)) in
    omega (arith, here, there, next_year day (y - 1))

month-cases : (k : ℕ) → (k % 12 < 11) ⊎ (k % 12 ≡ 11)
month-cases k = elim (cases_lt (k % 12) 11) [ inl lt ↦ inl lt | inr le ↦ inr (omega (arith, le)) ]

number-step : (day k : ℕ) → 12 ≤ k → day_number (day_in_month day k) ≤ day_number (day_in_month day (suc k))
number-step day k from = step-by day k (k / 12) (k % 12) (omega (arith, from)) (omega arith) (month-cases k)

number-rises : (day k n : ℕ) → 12 ≤ k → day_number (day_in_month day k) ≤ day_number (day_in_month day (k + n))
number-rises day k zero from = let e : k ≡ k + 0 = omega arith in
    let P : ℕ → Type 0 = λ j. day_number (day_in_month day k) ≤ day_number (day_in_month day j) in
    subst P e (omega arith)
number-rises day k (suc n) from =
    let e : suc (k + n) ≡ k + suc n = omega arith in
    let P : ℕ → Type 0 = λ j. day_number (day_in_month day k) ≤ day_number (day_in_month day j) in
    subst P e (omega (arith, number-rises day k n from, number-step day (k + n) (omega (arith, from))))

month-rises : (t day j k : ℕ) → 12 ≤ j → j ≤ k → at_month t day j ≤ at_month t day k
month-rises t day j k from le =
    let e : j + (k - j) ≡ k = omega (arith, le) in
    let P : ℕ → Type 0 = λ i. day_number (day_in_month day j) ≤ day_number (day_in_month day i) in
    let days : day_number (day_in_month day j) ≤ day_number (day_in_month day k) = subst P e (number-rises day j (k - j) from) in
    let rows = mul-le (day_number (day_in_month day j)) ticks_a_day (day_number (day_in_month day k)) ticks_a_day days (omega arith) in
    omega (arith, rows)

-- the first day is of the year 1, and none after it is of an earlier one
year-by : (p q : Bool) (x y z : Day) → 1 ≤ x.year → 1 ≤ y.year → 1 ≤ z.year → 1 ≤ (cond p x (cond q y z)).year
year-by true q x y z hx hy hz = hx
year-by false true x y z hx hy hz = hy
year-by false false x y z hx hy hz = hz

year-from : (n : ℕ) → 1 ≤ (day_at n).year
unfolding day_at
year-from zero = omega arith
year-from (suc n) =
    let d = day_at n in
    year-by (nat_lt d.day (days_in_month (pos d.year) d.month)) (nat_lt d.month 12)
    (record { year = d.year; month = d.month; day = suc d.day }) (record { year = d.year; month = suc d.month; day = 1 })
    (record { year = suc d.year; month = 1; day = 1 }) (year-from n) (year-from n) (omega (arith, year-from n))

month-from : (n : ℕ) → 12 ≤ month_number (day_at n)
month-from n = omega (arith, year-from n)

-- a month is one of the years 1 to 9999
some-if : (t : Bool) (f : ℕ → ℕ) (x v : ℕ) → option_map f (cond t (Some x) None) ≡ Some v → (t ≡ true) × (f x ≡ v)
some-if true f x v is = (refl, cc)
some-if false f x v is = absurd cc

from-years : (f : ℕ → ℕ) (x v : ℕ) → option_map f (month_in_years x) ≡ Some v → (x < 120000) × (f x ≡ v)
from-years f x v is =
    let parts = some-if (nat_le 12 x && nat_lt x 120000) f x v is in
    (ltb-true x 120000 (and_parts (nat_le 12 x) (nat_lt x 120000) parts.0).1, parts.1)

to-years : (f : ℕ → ℕ) (x : ℕ) → 12 ≤ x → x < 120000 → option_map f (month_in_years x) ≡ Some (f x)
to-years f x from lt =
    ap (option_map f) (cond-true _ (Some x) None (and_from (nat_le 12 x) (nat_lt x 120000) (le-leb 12 x from) (lt-ltb x 120000 lt)))

-- few months lead to a moment
pub few-months : (b n v : ℕ) → months_later n b ≡ Some v → n < 120000
few-months b n v is =
    let day = day_at (b / ticks_a_day) in
    omega (arith, (from-years (at_month b day.day) (month_number day + n * 1) v is).0)

-- fewer months lead to a moment too, which isn't later
pub fewer : (b j k v : ℕ) → j ≤ k → months_later k b ≡ Some v → (u : ℕ) × (months_later j b ≡ Some u) × (u ≤ v)
fewer b j k v le is =
    let day = day_at (b / ticks_a_day) in
    let first = month_number day in
    let far = from-years (at_month b day.day) (first + k * 1) v is in
    let low : 12 ≤ first = month-from (b / ticks_a_day) in (
      at_month b day.day (first + j * 1),
      to-years (at_month b day.day) (first + j * 1) (omega (arith, low)) (omega (arith, le, far.0)),
      omega (arith, far.1, month-rises b day.day (first + j * 1) (first + k * 1) (omega (arith, low)) (omega (arith, le))),
    )

-- 120,000 intervals lead behind the year 9999
too-far-by : (b at interval : ℕ) (m : Option ℕ) → 1 ≤ interval → months_later (120000 * interval) b ≡ m → is_before at m ≡ false
too-far-by b at interval None from is = refl
too-far-by b at interval (Some v) from is =
    let day = day_at (b / ticks_a_day) in
    let far = from-years (at_month b day.day) (month_number day + 120000 * interval * 1) v is in
    absurd (omega (arith, far.0, from))

pub too-far : (b at interval : ℕ) → 1 ≤ interval → is_before at (months_later (120000 * interval) b) ≡ false
too-far b at interval from = too-far-by b at interval (months_later (120000 * interval) b) from refl

-- what is before a moment is a moment
before-some : (at : ℕ) (m : Option ℕ) → is_before at m ≡ true → (v : ℕ) × (m ≡ Some v) × (v < at)
before-some at (Some v) is = (v, refl, ltb-true v at is)
before-some at None is = absurd cc

-- fewer intervals lead to a moment before another too
pub fewer-before : (at b interval j k : ℕ) → j ≤ k → is_before at (months_later (k * interval) b) ≡ true
    → is_before at (months_later (j * interval) b) ≡ true
fewer-before at b interval j k le is =
    let late = before-some at (months_later (k * interval) b) is in
    let early = fewer b (j * interval) (k * interval) late.0 (mul-le j interval k interval le (omega arith)) late.1 in
    ap (is_before at) early.1 ∙ lt-ltb early.0 at (omega (arith, early.2, late.2))

least-at : (at b interval n k j : ℕ) → is_before at (months_later (n * interval) b) ≡ false
    → ((i : ℕ) → i < n → is_before at (months_later (i * interval) b) ≡ true)
    → months_later (j * interval) b ≡ Some k → at ≤ k → (j < n) ⊎ (n ≤ j) → (u : ℕ) × (months_later (n * interval) b ≡ Some u) × (u ≤ k)
least-at at b interval n k j here before is le (inl early) =
    let some = before-some at (months_later (j * interval) b) (before j early) in
    let same : k ≡ some.0 = cc in
    absurd (omega (arith, some.2, same, le))
least-at at b interval n k j here before is le (inr late) =
    fewer b (n * interval) (j * interval) k (mul-le n interval j interval late (omega arith)) is

found-by : (at b interval n : ℕ) (m : Option ℕ) → is_before at (months_later (n * interval) b) ≡ false
    → ((i : ℕ) → i < n → is_before at (months_later (i * interval) b) ≡ true)
    → months_later (n * interval) b ≡ m → IsLeastFrom (IsMonthsLater interval b) at m
found-by at b interval n (Some m) here before is = (
  (n, is),
  ltb-false m at (ap (is_before at) (sym is) ∙ here),
  λ k later le.
      let least = least-at at b interval n k later.0 here before later.1 le (cases_lt later.0 n) in
      let same : m ≡ least.0 = cc in
      omega (arith, least.2, same),
)
found-by at b interval n None here before is = λ k later le.
    let least = least-at at b interval n k later.0 here before later.1 le (cases_lt later.0 n) in
    cc

-- the first number of intervals that leads to no moment before another leads to the least one
pub found : (at b interval n : ℕ) → is_before at (months_later (n * interval) b) ≡ false
    → ((i : ℕ) → i < n → is_before at (months_later (i * interval) b) ≡ true)
    → IsLeastFrom (IsMonthsLater interval b) at (months_later (n * interval) b)
found at b interval n here before = found-by at b interval n (months_later (n * interval) b) here before refl

-- half of what is left is known: below `middle` as well, or `middle` is the new end
pub halved : (at b interval middle : ℕ) → is_before at (months_later (middle * interval) b) ≡ true
    → (k : ℕ) → k < middle + 1 → is_before at (months_later (k * interval) b) ≡ true
halved at b interval middle is k lt = fewer-before at b interval k middle (omega (arith, lt)) is
