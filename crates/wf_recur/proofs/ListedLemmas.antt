-- The first of the due moments, as a list.
use Rattle.std.proofs.Common.{◌≡◌, ◌⊎◌, inl, inr, ℕ, zero, suc, ◌+◌, ◌-◌, ◌*◌, ◌%◌, ◌<◌, ◌≤◌, Bool, true, false, cond, ◌&&◌, ◌||◌, ◌==◌}
use Rattle.std.proofs.Common.{List, [], ◌∷◌, length, take, drop, min, Contains, Option, Some, None, refl, sym, ap, ◌∙◌, subst}
use Rattle.std.proofs.Common.{arith}
use Rattle.std.specs.Prelude.{nat_le}
use Rattle.std.specs.List.{All, filter, range_with_len}
use Rattle.std.proofs.lemmas.Bool.{and_from, and_parts, cases_order, eq-eqb, eqb-true, le-leb, leb-true, or_cases}
use Rattle.std.proofs.lemmas.List.{length-take, take-append-drop}
use Rattle.std.proofs.lemmas.List.Elements.{All-cons, All-contains, All-filter, All-nil, All-take, All-weaker}
use Rattle.std.proofs.lemmas.List.Elements.{Contains-append_left, Contains-append_right, filter_passes}
use Rattle.std.proofs.lemmas.Nat.{mul-le}
use Rattle.wf_fn_time.specs.Clock.{clock_at}
use Rattle.wf_fn_time.specs.Moments.{last_tick}
use Rattle.wf_recur.specs.Due.{IsDue, IsDueBy, IsMonthsLater, IsOnSchedule, day_of, kind_of, months_later, start_or, week_of}
use Rattle.wf_recur.specs.Moments.{any_below, is_due, is_due_by, is_full_minute, is_hour, is_minute, is_moment, is_months_later}
use Rattle.wf_recur.specs.Moments.{is_on_schedule, is_weekday, moments_due}
use Rattle.wf_recur.specs.Next.{AreNext, IsRising}
use Rattle.wf_recur.specs.declared.recurrence.Kind.{Kind}
use Rattle.wf_recur.specs.declared.recurrence.Recurrence.{Recurrence}
use Rattle.wf_recur.proofs.MonthLemmas.{few-months}
use Rattle.wf_recur.proofs.SameLemmas.{cons-cases, head-in, next-same}

-- ---- the test is the fact

or-left : (x y : Bool) → x ≡ true → (x || y) ≡ true
or-left true y is = refl
or-left false y is = absurd cc

or-right : (x y : Bool) → y ≡ true → (x || y) ≡ true
or-right true y is = refl
or-right false y is = is

any-found : (test : ℕ → Bool) (n : ℕ) → any_below test n ≡ true → (k : ℕ) × (test k ≡ true)
unfolding any_below
any-found test zero is = absurd cc
any-found test (suc n) is = elim (or_cases (any_below test n) (test n) is) [ inl before ↦ any-found test n before | inr last ↦ (n, last) ]

any-from : (test : ℕ → Bool) (n k : ℕ) → k < n → test k ≡ true → any_below test n ≡ true
unfolding any_below
any-from test zero k lt is = absurd (omega arith)
any-from test (suc n) k lt is =
    elim (cases_order k n) [
      | inl same ↦ or-right (any_below test n) (test n) (ap test (sym same) ∙ is)
      | inr other ↦ elim other [
        | inl less ↦ or-left (any_below test n) (test n) (any-from test n k less is)
        | inr more ↦ absurd (omega (arith, lt, more))
      ]
    ]

moment-is : (m : ℕ) (o : Option ℕ) → is_moment m o ≡ true → o ≡ Some m
moment-is m None is = absurd cc
moment-is m (Some k) is = ap Some (eqb-true k m is)

is-moment : (m : ℕ) (o : Option ℕ) → o ≡ Some m → is_moment m o ≡ true
is-moment m None is = absurd cc
is-moment m (Some k) is = let same : k ≡ m = cc in eq-eqb k m same

to-months : (interval b m : ℕ) → is_months_later interval b m ≡ true → IsMonthsLater interval b m
to-months interval b m is =
    let found = any-found (λ k. is_moment m (months_later (k * interval) b)) 120000 is in
    (found.0, moment-is m (months_later (found.0 * interval) b) found.1)

from-months : (interval b m : ℕ) → 1 ≤ interval → IsMonthsLater interval b m → is_months_later interval b m ≡ true
from-months interval b m from later =
    let few = few-months b (later.0 * interval) m later.1 in
    let grows : later.0 * 1 ≤ later.0 * interval = mul-le later.0 1 later.0 interval (omega arith) from in
    any-from (λ k. is_moment m (months_later (k * interval) b)) 120000 later.0 (omega (arith, few, grows))
    (is-moment m (months_later (later.0 * interval) b) later.1)

to-schedule : (r : Recurrence) (b m : ℕ) → is_on_schedule r b m ≡ true → IsOnSchedule r b m
to-schedule r b m is =
    let parts = and_parts (is_full_minute m) (is_hour r b m && is_minute r b m) is in
    let full = and_parts ((clock_at m).second == 0) ((clock_at m).fraction == 0) parts.0 in
    let named = and_parts (is_hour r b m) (is_minute r b m) parts.1 in
    record {
      second = eqb-true (clock_at m).second 0 full.0;
      fraction = eqb-true (clock_at m).fraction 0 full.1;
      hour = named.0;
      minute = named.1;
    }

from-schedule : (r : Recurrence) (b m : ℕ) → IsOnSchedule r b m → is_on_schedule r b m ≡ true
from-schedule r b m on =
    and_from (is_full_minute m) (is_hour r b m && is_minute r b m)
    (and_from ((clock_at m).second == 0) ((clock_at m).fraction == 0)
    (eq-eqb (clock_at m).second 0 on.second) (eq-eqb (clock_at m).fraction 0 on.fraction))
    (and_from (is_hour r b m) (is_minute r b m) on.hour on.minute)

to-kind : (kind : Kind) (r : Recurrence) (b m : ℕ) → is_due_by kind r b m ≡ true → IsDueBy kind r b m
to-kind (Kind.Steps unit) r b m is = eqb-true ((m - b) % (r.interval * unit)) 0 is
to-kind Kind.Months r b m is = to-months r.interval b m is
to-kind Kind.Days r b m is =
    let parts = and_parts (is_on_schedule r b m) ((day_of m - day_of b) % r.interval == 0) is in
    (to-schedule r b m parts.0, eqb-true ((day_of m - day_of b) % r.interval) 0 parts.1)
to-kind Kind.Weeks r b m is =
    let parts = and_parts (is_on_schedule r b m) (is_weekday r b m && ((week_of m - week_of b) % r.interval == 0)) is in
    let days = and_parts (is_weekday r b m) ((week_of m - week_of b) % r.interval == 0) parts.1 in
    (to-schedule r b m parts.0, days.0, eqb-true ((week_of m - week_of b) % r.interval) 0 days.1)

from-kind : (kind : Kind) (r : Recurrence) (b m : ℕ) → 1 ≤ r.interval → IsDueBy kind r b m → is_due_by kind r b m ≡ true
from-kind (Kind.Steps unit) r b m from due = eq-eqb ((m - b) % (r.interval * unit)) 0 due
from-kind Kind.Months r b m from due = from-months r.interval b m from due
from-kind Kind.Days r b m from due =
    and_from (is_on_schedule r b m) ((day_of m - day_of b) % r.interval == 0) (from-schedule r b m due.0)
    (eq-eqb ((day_of m - day_of b) % r.interval) 0 due.1)
from-kind Kind.Weeks r b m from due =
    and_from (is_on_schedule r b m) (is_weekday r b m && ((week_of m - week_of b) % r.interval == 0)) (from-schedule r b m due.0)
    (and_from (is_weekday r b m) ((week_of m - week_of b) % r.interval == 0) due.1
    (eq-eqb ((week_of m - week_of b) % r.interval) 0 due.2))

pub to-due : (r : Recurrence) (b m : ℕ) → is_due r b m ≡ true → IsDue r b m
to-due r b m is =
    let parts = and_parts (nat_le m last_tick) (nat_le b m && is_due_by (kind_of r) r b m) is in
    let more = and_parts (nat_le b m) (is_due_by (kind_of r) r b m) parts.1 in
    record {
      in_years = leb-true m last_tick parts.0;
      from_start = leb-true b m more.0;
      by_kind = to-kind (kind_of r) r b m more.1;
    }

pub from-due : (r : Recurrence) (b m : ℕ) → 1 ≤ r.interval → IsDue r b m → is_due r b m ≡ true
from-due r b m from due =
    and_from (nat_le m last_tick) (nat_le b m && is_due_by (kind_of r) r b m) (le-leb m last_tick due.in_years)
    (and_from (nat_le b m) (is_due_by (kind_of r) r b m) (le-leb b m due.from_start) (from-kind (kind_of r) r b m from due.by_kind))

-- ---- the numbers of a range that pass a test

range-from : (a n : ℕ) → All (λ k. a ≤ k) (range_with_len a n)
range-from a zero = All-nil (λ k. a ≤ k)
range-from a (suc n) =
    All-cons (λ k. a ≤ k) a (range_with_len (a + 1) n) (omega arith)
    (All-weaker (λ k. a + 1 ≤ k) (λ k. a ≤ k) (λ k le. omega (arith, le)) (range_with_len (a + 1) n) (range-from (a + 1) n))

-- one more in front, if it passes
rising-if : (t : Bool) (a : ℕ) (ms : List ℕ) → All (λ k. a < k) ms → IsRising ms → IsRising (cond t (a ∷ ms) ms)
rising-if true a ms above rising = (above, rising)
rising-if false a ms above rising = rising

in-if : (t : Bool) (a k : ℕ) (ms : List ℕ) → Contains ms k → Contains (cond t (a ∷ ms) ms) k
in-if true a k ms among = Contains-append_right (a ∷ []) ms k among
in-if false a k ms among = among

rising-filter : (p : ℕ → Bool) (a n : ℕ) → IsRising (filter p (range_with_len a n))
rising-filter p a zero = tt
rising-filter p a (suc n) =
    let rest = filter p (range_with_len (a + 1) n) in
    let above : All (λ k. a < k) rest =
    All-weaker (λ k. a + 1 ≤ k) (λ k. a < k) (λ k le. omega (arith, le)) rest
    (All-filter p (λ k. a + 1 ≤ k) (range_with_len (a + 1) n) (range-from (a + 1) n)) in
    rising-if (p a) a rest above (rising-filter p (a + 1) n)

first-in : (t : Bool) (a : ℕ) (ms : List ℕ) → t ≡ true → Contains (cond t (a ∷ ms) ms) a
first-in true a ms is = head-in a ms
first-in false a ms is = absurd cc

in-filter : (p : ℕ → Bool) (a n k : ℕ) → p k ≡ true → a ≤ k → k < a + n → Contains (filter p (range_with_len a n)) k
in-filter p a zero k is le lt = absurd (omega (arith, le, lt))
in-filter p a (suc n) k is le lt =
    elim (cases_order a k) [
      | inl same ↦
          let P : ℕ → Type 0 = λ j. Contains (filter p (range_with_len a (suc n))) j in
          subst P same (first-in (p a) a (filter p (range_with_len (a + 1) n)) (ap p same ∙ is))
      | inr other ↦ elim other [
        | inl less ↦
            in-if (p a) a k (filter p (range_with_len (a + 1) n)) (in-filter p (a + 1) n k is (omega (arith, less)) (omega (arith, lt)))
        | inr more ↦ absurd (omega (arith, le, more))
      ]
    ]

-- ---- the first of a rising list

rising-take : (n : ℕ) (ms : List ℕ) → IsRising ms → IsRising (take n ms)
rising-take zero ms rising = tt
rising-take (suc n) [] rising = tt
rising-take (suc n) (m ∷ ms) rising = (All-take (λ k. m < k) n ms rising.0, rising-take n ms rising.1)

from-take : (n : ℕ) (ms : List ℕ) (k : ℕ) → Contains (take n ms) k → Contains ms k
from-take n ms k among =
    let P : List ℕ → Type 0 = λ xs. Contains xs k in
    subst P (take-append-drop n ms) (Contains-append_left (take n ms) (drop n ms) k among)

in-take : (n : ℕ) (ms : List ℕ) (k : ℕ) → IsRising ms → Contains ms k
    → Contains (take n ms) k ⊎ ((length (take n ms) ≡ n) × All (λ j. j < k) (take n ms))
in-take zero ms k rising among = inr (refl, All-nil (λ j. j < k))
in-take (suc n) [] k rising among = absurd (omega (arith, among.1))
in-take (suc n) (m ∷ ms) k rising among =
    elim (cons-cases m ms k among.0 among.1 among.2) [
      | inl same ↦
          let P : ℕ → Type 0 = λ j. Contains (take (suc n) (m ∷ ms)) j in
          inl (subst P same (head-in m (take n ms)))
      | inr later ↦
          let lt : m < k = All-contains (λ j. m < j) ms k rising.0 later in
          elim (in-take n ms k rising.1 later) [
            | inl first ↦ inl (Contains-append_right (m ∷ []) (take n ms) k first)
            | inr behind ↦ inr (ap suc behind.0, All-cons (λ j. j < k) m (take n ms) lt behind.1)
          ]
    ]

-- ---- together

pub listed-next : (r : Recurrence) (from n : ℕ) → 1 ≤ r.interval → AreNext r from n (moments_due r from n)
unfolding moments_due
listed-next r from n positive =
    let p : ℕ → Bool = is_due r (start_or r from) in
    let range = range_with_len from (last_tick + 1 - from) in
    let rising : IsRising (filter p range) = rising-filter p from (last_tick + 1 - from) in
    record {
      rising = rising-take n (filter p range) rising;
      each = λ m among.
          let in_all = from-take n (filter p range) m among in (
            to-due r (start_or r from) m (All-contains (λ k. p k ≡ true) (filter p range) m (filter_passes p range) in_all),
            All-contains (λ k. from ≤ k) (filter p range) m
                (All-filter p (λ k. from ≤ k) range (range-from from (last_tick + 1 - from))) in_all,
          );
      few = let most : length (take n (filter p range)) ≡ min n (length (filter p range)) = length-take n (filter p range) in
          omega (arith, most);
      whole = λ m due le.
          in-take n (filter p range) m rising
          (in-filter p from (last_tick + 1 - from) m (from-due r (start_or r from) m positive due) le
          (omega (arith, due.in_years, le)));
    }

-- what is listed is what comes next
pub are_listed : (r : Recurrence) (from n : ℕ) (ms : List ℕ) → 1 ≤ r.interval → AreNext r from n ms
    → ms ≡ moments_due r from n
are_listed r from n ms positive next = next-same r from n ms (moments_due r from n) next (listed-next r from n positive)
