-- Sets of the numbers below a bound: of each of them, whether it is in the set.
use Rattle.std.specs.Prelude.{ℕ, List, Bool, true, false, slice_set, slice_index_or, if◌then◌else◌}
use Rattle.std.specs.List.{list_any}

-- a number is in the set
abbrev pub has : List Bool → ℕ → Bool
has set n = slice_index_or set n false

-- the set isn't empty
abbrev pub has_any : List Bool → Bool
has_any set = list_any (λ is_in. is_in) set

-- the set with one more number
abbrev pub with : ℕ → List Bool → List Bool
with n set = slice_set set n true

-- the set, or where it is empty that of one number
abbrev pub or_own : ℕ → List Bool → List Bool
or_own own set = if has_any set then set else with own set
