-- What a sink has taken of a text, where it tells.
use Rattle.std.specs.Prelude.{◌≡◌, ◌⊎◌, ℕ, ◌≤◌, List, ◌++◌, Option, length, take}
use Rattle.std.specs.Io.KnownBytes.{Appends}

-- known bytes grow by a prefix of bs
abbrev pub AppendsPrefix : Option (List ℕ) → Option (List ℕ) → List ℕ → Type 0
AppendsPrefix old new bs = (n : ℕ) × (n ≤ length bs) × Appends old new (take n bs)

-- known bytes grow by bs at least
abbrev pub AppendsAtLeast : Option (List ℕ) → Option (List ℕ) → List ℕ → Type 0
AppendsAtLeast old new bs = (more : List ℕ) × Appends old new (bs ++ more)

-- All of a text was taken, and the status is its own; or a prefix of it, and the status is 4.
abbrev pub Writes : Option (List ℕ) → Option (List ℕ) → ℕ → List ℕ → ℕ → Type 0
Writes before after status text result =
    ((result ≡ status) × Appends before after text) ⊎ ((result ≡ 4) × AppendsPrefix before after text)
