-- Functions that can take each argument with what those before it come to.
use Rattle.std.specs.Prelude.{◌≡◌, ◌≤◌, Bool, true, false, List, [], ◌∷◌, ◌++◌, length}
use Rattle.std.specs.List.{AllByRecursion}
use Rattle.wf_val.specs.Arguments.{given}
use Rattle.wf_val.specs.ValueTree.{ValueTree, Fits}
use Rattle.wf_val.specs.declared.function.Fun.{Fun}
use Rattle.wf_functions.specs.Rows.{strict_row}
use Rattle.wf_folds.specs.Paired.{at_place}

-- behind two arguments or more, of which each fits, one more is taken with what they come to
abbrev pub IsPairing : Fun → Type 0
IsPairing f = (ts : List ValueTree) (t : ValueTree) → 2 ≤ length ts → AllByRecursion Fits ts → Fits t →
    strict_row f (ts ++ t ∷ []) ≡ given (strict_row f ts) (λ u. at_place (length ts) (strict_row f (u ∷ t ∷ [])))

-- functions of which that holds
abbrev pub is_pairing : Fun → Bool
is_pairing Fun.Min = true
is_pairing Fun.Max = true
is_pairing Fun.Intersection = true
is_pairing f = false
