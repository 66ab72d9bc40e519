-- The next moments, one after the other.
use Rattle.std.proofs.Common.{◌≡◌, ◌⊎◌, inl, inr, ℕ, ◌+◌, ◌<◌, ◌≤◌, List, [], ◌∷◌, ◌++◌, length, Contains, max, Option, Some, None, subst}
use Rattle.std.proofs.Common.{arith}
use Rattle.std.proofs.lemmas.Bool.{cases_lt}
use Rattle.std.proofs.lemmas.List.Elements.{All-nil, All-push, All-head, All-tail, All-weaker, All-contains_itself, Contains-append_left}
use Rattle.std.proofs.lemmas.List.Elements.{Contains-push, Contains-push_cases}
use Rattle.std.specs.List.{All}
use Rattle.std.specs.Option.{IfSome}
use Rattle.wf_fn_time.specs.Moments.{last_tick}
use Rattle.wf_recur.specs.Due.{IsDue, IsDueBy, kind_of, start_or}
use Rattle.wf_recur.specs.Next.{AreNext, IsLeastFrom, IsRising}
use Rattle.wf_recur.specs.declared.recurrence.Recurrence.{Recurrence}

-- all moments due from one on and before another, in their order
pub record AreBefore (r : Recurrence) (from at : ℕ) (ms : List ℕ) : Type 0 where
  pub rising : IsRising ms
  pub each : (m : ℕ) → Contains ms m → IsDue r (start_or r from) m × (from ≤ m) × (m < at)
  pub whole : (m : ℕ) → IsDue r (start_or r from) m → from ≤ m → m < at → Contains ms m

-- at first there is none
pub before_first : (r : Recurrence) (from : ℕ) → AreBefore r from from []
before_first r from = record {
  rising = tt;
  each = λ m among. absurd (omega (arith, among.1));
  whole = λ m due le lt. absurd (omega (arith, le, lt));
}

rising-push : (ms : List ℕ) (m : ℕ) → IsRising ms → All (λ k. k < m) ms → IsRising (ms ++ m ∷ [])
rising-push [] m rising below = (All-nil (λ k. m < k), tt)
rising-push (k ∷ ms) m rising below = (
  All-push (λ j. k < j) ms m rising.0 (All-head (λ j. j < m) k ms below),
  rising-push ms m rising.1 (All-tail (λ j. j < m) k ms below),
)

all-before : (r : Recurrence) (from at : ℕ) (ms : List ℕ) → AreBefore r from at ms → All (λ k. k < at) ms
all-before r from at ms before =
    All-weaker (Contains ms) (λ k. k < at) (λ k among. (before.each k among).2) ms (All-contains_itself ms)

each-push : (r : Recurrence) (from at m k : ℕ) (ms : List ℕ) → AreBefore r from at ms → from ≤ at
    → IsLeastFrom (IsDue r (start_or r from)) at (Some m) → Contains ms k ⊎ (m ≡ k)
    → IsDue r (start_or r from) k × (from ≤ k) × (k < m + 1)
each-push r from at m k ms before le least (inl among) =
    let is = before.each k among in (is.0, is.1, omega (arith, is.2, least.1))
each-push r from at m k ms before le least (inr same) =
    let P : ℕ → Type 0 = λ k. IsDue r (start_or r from) k × (from ≤ k) × (k < m + 1) in
    subst P same (least.0, omega (arith, le, least.1), omega arith)

whole-push : (r : Recurrence) (from at m k : ℕ) (ms : List ℕ) → AreBefore r from at ms
    → IsLeastFrom (IsDue r (start_or r from)) at (Some m) → IsDue r (start_or r from) k → from ≤ k → k < m + 1 → (k < at) ⊎ (at ≤ k)
    → Contains (ms ++ m ∷ []) k
whole-push r from at m k ms before least due le lt (inl early) = Contains-append_left ms (m ∷ []) k (before.whole k due le early)
whole-push r from at m k ms before least due le lt (inr late) =
    let same : m ≡ k = omega (arith, lt, least.2 k due late) in
    let P : ℕ → Type 0 = λ k. Contains (ms ++ m ∷ []) k in
    subst P same (Contains-push ms m)

-- and the next one behind them
pub before_push : (r : Recurrence) (from at m : ℕ) (ms : List ℕ) → AreBefore r from at ms → from ≤ at
    → IsLeastFrom (IsDue r (start_or r from)) at (Some m) → AreBefore r from (m + 1) (ms ++ m ∷ [])
before_push r from at m ms before le least = record {
  rising =
      rising-push ms m before.rising
      (All-weaker (λ k. k < at) (λ k. k < m) (λ k lt. omega (arith, lt, least.1)) ms (all-before r from at ms before));
  each = λ k among. each-push r from at m k ms before le least (Contains-push_cases ms m k among);
  whole = λ k due from_on lt. whole-push r from at m k ms before least due from_on lt (cases_lt k at);
}

ended-by : (r : Recurrence) (from at n m : ℕ) (ms : List ℕ) → AreBefore r from at ms → IsLeastFrom (IsDue r (start_or r from)) at None
    → IsDue r (start_or r from) m → from ≤ m → (m < at) ⊎ (at ≤ m) → Contains ms m ⊎ ((length ms ≡ n) × All (λ k. k < m) ms)
ended-by r from at n m ms before none due le (inl early) = inl (before.whole m due le early)
ended-by r from at n m ms before none due le (inr late) = absurd (none m due late)

-- where none follows they are the next ones
pub next_ended : (r : Recurrence) (from at n : ℕ) (ms : List ℕ) → AreBefore r from at ms
    → IsLeastFrom (IsDue r (start_or r from)) at None → length ms ≤ n → AreNext r from n ms
next_ended r from at n ms before none few = record {
  rising = before.rising;
  each = λ m among. ((before.each m among).0, (before.each m among).1);
  few = few;
  whole = λ m due le. ended-by r from at n m ms before none due le (cases_lt m at);
}

full-by : (r : Recurrence) (from at n m : ℕ) (ms : List ℕ) → AreBefore r from at ms → length ms ≡ n
    → IsDue r (start_or r from) m → from ≤ m → (m < at) ⊎ (at ≤ m) → Contains ms m ⊎ ((length ms ≡ n) × All (λ k. k < m) ms)
full-by r from at n m ms before full due le (inl early) = inl (before.whole m due le early)
full-by r from at n m ms before full due le (inr late) = inr (
  full,
  All-weaker (λ k. k < at) (λ k. k < m) (λ k lt. omega (arith, lt, late)) ms (all-before r from at ms before),
)

-- and so they are where there are enough
pub next_full : (r : Recurrence) (from at n : ℕ) (ms : List ℕ) → AreBefore r from at ms → length ms ≡ n → AreNext r from n ms
next_full r from at n ms before full = record {
  rising = before.rising;
  each = λ m among. ((before.each m among).0, (before.each m among).1);
  few = omega (arith, full);
  whole = λ m due le. full-by r from at n m ms before full due le (cases_lt m at);
}

-- the first by the kind of a recurrence, from the later of a moment and its start on, is the first that is due
pub due_least : (r : Recurrence) (b at later : ℕ) (P : ℕ → Type 0) (o : Option ℕ) → later ≡ max at b
    → ((m : ℕ) → P m → IsDueBy (kind_of r) r b m) → ((m : ℕ) → IsDue r b m → P m) → IfSome o (λ m. m ≤ last_tick)
    → IsLeastFrom P later o → IsLeastFrom (IsDue r b) at o
due_least r b at later P (Some m) is to from within least = (
  record { in_years = within; from_start = omega (arith, is, least.1); by_kind = to m least.0 },
  omega (arith, is, least.1),
  λ k due le. least.2 k (from k due) (omega (arith, is, due.from_start, le)),
)
due_least r b at later P None is to from within none = λ k due le. none k (from k due) (omega (arith, is, due.from_start, le))

pub later_due : (r : Recurrence) (b at later : ℕ) (o : Option ℕ) → later ≡ max at b → IsLeastFrom (IsDue r b) later o
    → IsLeastFrom (IsDue r b) at o
later_due r b at later (Some m) is least =
    (least.0, omega (arith, is, least.1), λ k due le. least.2 k due (omega (arith, is, due.from_start, le)))
later_due r b at later None is none = λ k due le. none k due (omega (arith, is, due.from_start, le))
