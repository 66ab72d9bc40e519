-- The next moments of a recurrence.
use Rattle.std.specs.Prelude.{◌≡◌, ◌⊎◌, ℕ, ◌-◌, ◌%◌, ◌<◌, ◌≤◌, List, [], ◌∷◌, length, Contains, Bool, false, Option, Some, None, nat_lt}
use Rattle.std.specs.List.{All}
use Rattle.wf_recur.specs.Due.{IsDue, start_or}
use Rattle.wf_recur.specs.declared.recurrence.Recurrence.{Recurrence}

-- the least number from `at` on that has a property; none where no such number has it
abbrev pub IsLeastFrom : (ℕ → Type 0) → ℕ → Option ℕ → Type 0
IsLeastFrom P at (Some m) = P m × (at ≤ m) × ((k : ℕ) → P k → at ≤ k → m ≤ k)
IsLeastFrom P at None = (k : ℕ) → P k → at ≤ k → ⊥

-- a multiple of a step behind a start
abbrev pub IsMultipleFrom : ℕ → ℕ → ℕ → Type 0
IsMultipleFrom start step n = (n - start) % step ≡ 0

abbrev pub is_before : ℕ → Option ℕ → Bool
is_before at (Some m) = nat_lt m at
is_before at None = false

-- each is behind the one before it
abbrev pub IsRising : List ℕ → Type 0
IsRising [] = Unit {0}
IsRising (m ∷ ms) = All (λ k. m < k) ms × IsRising ms

-- The next n moments from a moment on, fewer where there are no more: rising, each of them due, and every other moment due from there on
-- is behind them all, and then there are n.
pub record AreNext (r : Recurrence) (from n : ℕ) (ms : List ℕ) : Type 0 where
  pub rising : IsRising ms
  pub each : (m : ℕ) → Contains ms m → IsDue r (start_or r from) m × (from ≤ m)
  pub few : length ms ≤ n
  pub whole : (m : ℕ) → IsDue r (start_or r from) m → from ≤ m → Contains ms m ⊎ ((length ms ≡ n) × All (λ k. k < m) ms)
