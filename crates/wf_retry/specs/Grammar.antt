-- Durations (ISO 8601), as a grammar on bytes. Where a relation has two texts, something stands at the front of the first, and
-- the second comes after it.
use Rattle.std.specs.Prelude.{ℕ, suc, ◌≤◌, List, [], ◌∷◌}

-- n digits
pub data Digits : ℕ → List ℕ → List ℕ → Type 0 where
  no_digit : {s : List ℕ} → Digits 0 s s
  digit : {n b : ℕ} {s r : List ℕ} → 48 ≤ b → b ≤ 57 → Digits n s r → Digits (suc n) (b ∷ s) r

-- a number of one to nine digits, and its letter
pub data Part (letter : ℕ) : List ℕ → List ℕ → Type 0 where
  part : {n : ℕ} {s r : List ℕ} → 1 ≤ n → n ≤ 9 → Digits n s (letter ∷ r) → Part letter s r

-- a part that may be left out
pub data Perhaps (letter : ℕ) : List ℕ → List ℕ → Type 0 where
  left_out : {s : List ℕ} → Perhaps letter s s
  there : {s r : List ℕ} → Part letter s r → Perhaps letter s r

-- hours (`H`), minutes (`M`) and seconds (`S`), in this order and each perhaps left out, but not all: a byte is there
pub data IsTimeOfDay : List ℕ → Type 0 where
  time_of_day : {b : ℕ} {s m t : List ℕ} → Perhaps 72 (b ∷ s) m → Perhaps 77 m t → Perhaps 83 t [] → IsTimeOfDay (b ∷ s)

-- `P`, and days (`D`), or `T` and a time, or both
pub data IsDuration : List ℕ → Type 0 where
  days : {s : List ℕ} → Part 68 s [] → IsDuration (80 ∷ s)
  time : {s : List ℕ} → IsTimeOfDay s → IsDuration (80 ∷ 84 ∷ s)
  days_and_time : {s r : List ℕ} → Part 68 s (84 ∷ r) → IsTimeOfDay r → IsDuration (80 ∷ s)
