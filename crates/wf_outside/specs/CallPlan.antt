-- The calls on an object in memory. They are numbered from 1, and their count stands still at the last value of a u64.
use Rattle.std.specs.Prelude.{ℕ, ◌+◌, ◌-◌, ◌^◌, min, List, [], ◌∷◌, ◌++◌, Contains}

-- how many calls were made, and the numbers of those that are to fail
pub record CallPlan : Type 0 where
  pub made : ℕ
  pub to_fail : List ℕ

-- a count after one more
abbrev pub one_more : ℕ → ℕ
one_more count = min (count + 1) (2 ^ 64 - 1)

-- no call was made, and none is to fail
abbrev pub no_calls : CallPlan
no_calls = record { made = 0; to_fail = [] }

-- a further call is to fail
abbrev pub planned : CallPlan → ℕ → CallPlan
planned calls call = record { made = calls.made; to_fail = calls.to_fail ++ call ∷ [] }

-- a further call was made
abbrev pub called : CallPlan → CallPlan
called calls = record { made = one_more calls.made; to_fail = calls.to_fail }

-- the next call is to fail
abbrev pub IsDue : CallPlan → Type 0
IsDue calls = Contains calls.to_fail (one_more calls.made)
