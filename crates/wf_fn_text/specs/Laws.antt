-- What pieces and places are, said in another way.
use Rattle.std.specs.Prelude.{◌≡◌, ℕ, ◌<◌, ◌≤◌, List, ◌++◌, Option, MatchOption, length, drop}

-- a text stands in another at a place
abbrev pub StandsAt : List ℕ → List ℕ → ℕ → Type 0
StandsAt part cs i = (rest : List ℕ) × (drop i cs ≡ part ++ rest)

-- it stands nowhere in it
abbrev pub StandsNowhere : List ℕ → List ℕ → Type 0
StandsNowhere part cs = (i : ℕ) → i ≤ length cs → ¬ (StandsAt part cs i)

-- it stands there, and nowhere before
abbrev pub StandsFirstAt : List ℕ → List ℕ → ℕ → Type 0
StandsFirstAt part cs i = (StandsAt part cs i) × (i ≤ length cs) × ((k : ℕ) → k < i → ¬ (StandsAt part cs k))

-- it stands there, and nowhere behind
abbrev pub StandsLastAt : List ℕ → List ℕ → ℕ → Type 0
StandsLastAt part cs i = (StandsAt part cs i) × (i ≤ length cs) × ((k : ℕ) → i < k → k ≤ length cs → ¬ (StandsAt part cs k))

-- a place, where there is one, is the first, or the last, and where there is none the text stands nowhere
abbrev pub IsFirst : List ℕ → List ℕ → Option ℕ → Type 0
IsFirst part cs o = MatchOption o (StandsNowhere part cs) (StandsFirstAt part cs)

abbrev pub IsLast : List ℕ → List ℕ → Option ℕ → Type 0
IsLast part cs o = MatchOption o (StandsNowhere part cs) (StandsLastAt part cs)
