-- The least and the greatest of numbers (Workflow Definition Language, math functions min and max).
use Rattle.std.specs.Prelude.{ℕ, suc, ℤ, Bool, true, false, List, [], ◌∷◌, Option, Some, None, Result, Ok, Err, ◌==◌, length, slice_get}
use Rattle.std.specs.Prelude.{if◌then◌else◌}
use Rattle.std.specs.Int.{int_min, int_max}
use Rattle.std.specs.List.{reduce}
use Rattle.wf_val.specs.Arguments.{Answer, given, wrong_type}
use Rattle.wf_fn_math.specs.declared.extremes.Extreme.{Extreme}
use Rattle.wf_val.specs.ValueTree.{ValueTree, number, list, items}
use Rattle.wf_val.specs.declared.fault.EvalFault.{EvalFault}
use Rattle.wf_val.specs.declared.function.Fun.{Fun}

-- the place that a fault names: the argument's own, or the list's, which is the only argument
abbrev pub place_named : Bool → ℕ → ℕ
place_named in_list i = if in_list then 0 else i

-- the numbers that values are, from a place on; the leftmost that is no number is of the wrong type
abbrev pub all_numbers : Fun → Bool → ℕ → List ValueTree → Result (List ℤ) EvalFault
all_numbers f in_list i [] = Ok []
all_numbers f in_list i (number n ∷ ts) = given (all_numbers f in_list (suc i) ts) (λ ns. Ok (n ∷ ns))
all_numbers f in_list i (t ∷ ts) = Err (wrong_type f (place_named in_list i))

-- the number that is there; `Range` where none is
abbrev pub number_or_range : Fun → Option ℤ → Answer
number_or_range f (Some n) = Ok (number n)
number_or_range f None = Err (EvalFault.Range f)

-- the number that is left where of each two one is picked
abbrev pub picked_of : Fun → (ℤ → ℤ → ℤ) → List ℤ → Answer
picked_of f pick ns = number_or_range f (reduce pick ns)

-- the items of a value that is a list
abbrev pub items_of : Option ValueTree → Option (List ValueTree)
items_of (Some (list ts)) = Some (items ts)
items_of t = None

-- the items of the only argument, where it is a list
abbrev pub items_of_only : List ValueTree → Option (List ValueTree)
items_of_only ts = if (length ts == 1) then items_of (slice_get ts 0) else None

abbrev pub extreme_of : Fun → (ℤ → ℤ → ℤ) → List ValueTree → Option (List ValueTree) → Answer
extreme_of f pick ts (Some items) = given (all_numbers f true 0 items) (picked_of f pick)
extreme_of f pick ts None = given (all_numbers f false 0 ts) (picked_of f pick)

-- of one list the items count, else the arguments
abbrev pub extreme_row : Fun → (ℤ → ℤ → ℤ) → List ValueTree → Answer
extreme_row f pick ts = extreme_of f pick ts (items_of_only ts)

abbrev pub min_row : List ValueTree → Answer
min_row = extreme_row Fun.Min int_min

abbrev pub max_row : List ValueTree → Answer
max_row = extreme_row Fun.Max int_max

-- the two ways to pick, by the function that picks so, and of two numbers
abbrev pub function_of : Extreme → Fun
function_of Extreme.Least = Fun.Min
function_of Extreme.Greatest = Fun.Max

abbrev pub pick_of : Extreme → ℤ → ℤ → ℤ
pick_of Extreme.Least = int_min
pick_of Extreme.Greatest = int_max

-- what is picked of a further number and of those before it, if any
abbrev pub better : (ℤ → ℤ → ℤ) → Option ℤ → ℤ → ℤ
better pick (Some n) m = pick n m
better pick None m = m
