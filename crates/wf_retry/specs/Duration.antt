-- Durations (ISO 8601), as a test on bytes: `P`, perhaps days, perhaps `T` with hours, minutes and seconds in this order, at
-- least one part in all.
use Rattle.std.specs.Prelude.{ℕ, ◌+◌, Bool, false, not, ◌&&◌, ◌||◌, ◌==◌, nat_le, List, [], ◌∷◌, length, drop, Option, Some, None, if◌then◌else◌, unwrap_or, slice_get}

abbrev pub is_digit : ℕ → Bool
is_digit b = nat_le 48 b && nat_le b 57

-- how many digits lead
abbrev pub leading : List ℕ → ℕ
leading [] = 0
leading (b ∷ bs) = if is_digit b then 1 + leading bs else 0

abbrev pub is_letter : ℕ → Option ℕ → Bool
is_letter letter None = false
is_letter letter (Some b) = b == letter

-- what comes behind one part: 1 to 9 digits and its letter
abbrev pub behind : ℕ → List ℕ → Option (List ℕ)
behind letter s = if nat_le 1 (leading s) && (nat_le (leading s) 9 && is_letter letter (slice_get s (leading s))) then Some
    (drop (leading s + 1) s) else None

-- behind a part that may be left out
abbrev pub skipped : ℕ → List ℕ → List ℕ
skipped letter s = unwrap_or (behind letter s) s

abbrev pub is_none_left : List ℕ → Bool
is_none_left s = length s == 0

-- hours, minutes, seconds, at least one of them
abbrev pub is_time_of_day : List ℕ → Bool
is_time_of_day s = not (is_none_left s) && is_none_left (skipped 83 (skipped 77 (skipped 72 s)))

abbrev pub is_time : List ℕ → Bool
is_time [] = false
is_time (b ∷ bs) = (b == 84) && is_time_of_day bs

-- what follows the days, where they are there: nothing, or a time; where they aren't, a time
abbrev pub follows_days : Option (List ℕ) → List ℕ → Bool
follows_days (Some rest) s = is_none_left rest || is_time rest
follows_days None s = is_time s

abbrev pub ends_duration : List ℕ → Bool
ends_duration s = follows_days (behind 68 s) s

abbrev pub is_duration : List ℕ → Bool
is_duration [] = false
is_duration (b ∷ bs) = (b == 80) && ends_duration bs
