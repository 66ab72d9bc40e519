-- What the rows of all functions share: an answer is a value or a fault, the arguments are judged from left to right,
-- a whole number has 64 bits with a sign, and a value has to fit.
use Rattle.std.specs.Prelude.{◌≡◌, ◌≢◌, ℕ, suc, ◌-◌, ◌^◌, ℤ, pos, negsuc, Bool, true, false, ◌&&◌, List, Option, Some, None, Result, Ok, Err, int_le, nat_le, slice_get, if◌then◌else◌}
use Rattle.wf_val.specs.Cut.{cut_u32, cut_u64}
use Rattle.wf_val.specs.Seen.{tree}
use Rattle.wf_val.specs.ValueTree.{ValueTree, boolean, number, text, list, object, items, pairs, Member, depth, weight, fits}
use Rattle.wf_val.specs.declared.fault.EvalFault.{EvalFault}
use Rattle.wf_val.specs.declared.function.Fun.{Fun}
use Rattle.wf_val.specs.declared.val.Val.{Val}

-- what a function gives: a value, or a fault
abbrev pub Answer : Type 0
Answer = Result ValueTree EvalFault

-- the answer of a call, its value as a tree
abbrev pub seen : Result Val EvalFault → Answer
seen (Ok v) = Ok (tree v)
seen (Err f) = Err f

-- what comes next, where there is a value; a fault stands
abbrev pub given : {X Y : Type 0} → Result X EvalFault → (X → Result Y EvalFault) → Result Y EvalFault
given (Ok x) next = next x
given (Err f) next = Err f

-- the fault of an argument of another type; arguments stand at places from 0, and a fault counts them from 1
abbrev pub wrong_type : Fun → ℕ → EvalFault
wrong_type f i = EvalFault.WrongType f (cut_u32 (suc i))

-- the number, the text, the Boolean that an argument is
abbrev pub number_of : Fun → ℕ → Option ValueTree → Result ℤ EvalFault
number_of f i (Some (number n)) = Ok n
number_of f i t = Err (wrong_type f i)

abbrev pub text_of : Fun → ℕ → Option ValueTree → Result (List ℕ) EvalFault
text_of f i (Some (text s)) = Ok s
text_of f i t = Err (wrong_type f i)

abbrev pub truth_of : Fun → ℕ → Option ValueTree → Result Bool EvalFault
truth_of f i (Some (boolean b)) = Ok b
truth_of f i t = Err (wrong_type f i)

-- the items, the members that an argument has, and the argument itself, of whatever type
abbrev pub list_of : Fun → ℕ → Option ValueTree → Result (List ValueTree) EvalFault
list_of f i (Some (list ts)) = Ok (items ts)
list_of f i t = Err (wrong_type f i)

abbrev pub object_of : Fun → ℕ → Option ValueTree → Result (List Member) EvalFault
object_of f i (Some (object ms)) = Ok (pairs ms)
object_of f i t = Err (wrong_type f i)

abbrev pub value_of : Fun → ℕ → Option ValueTree → Answer
value_of f i (Some t) = Ok t
value_of f i None = Err (wrong_type f i)

-- the number, the text where the argument may be left out
abbrev pub number_or_none : Fun → ℕ → Option ValueTree → Result (Option ℤ) EvalFault
number_or_none f i None = Ok None
number_or_none f i (Some (number n)) = Ok (Some n)
number_or_none f i (Some t) = Err (wrong_type f i)

abbrev pub text_or_none : Fun → ℕ → Option ValueTree → Result (Option (List ℕ)) EvalFault
text_or_none f i None = Ok None
text_or_none f i (Some (text s)) = Ok (Some s)
text_or_none f i (Some t) = Err (wrong_type f i)

-- what stands at a place among the arguments
abbrev pub number_at : Fun → List ValueTree → ℕ → Result ℤ EvalFault
number_at f ts i = number_of f i (slice_get ts i)

abbrev pub text_at : Fun → List ValueTree → ℕ → Result (List ℕ) EvalFault
text_at f ts i = text_of f i (slice_get ts i)

abbrev pub truth_at : Fun → List ValueTree → ℕ → Result Bool EvalFault
truth_at f ts i = truth_of f i (slice_get ts i)

abbrev pub list_at : Fun → List ValueTree → ℕ → Result (List ValueTree) EvalFault
list_at f ts i = list_of f i (slice_get ts i)

abbrev pub object_at : Fun → List ValueTree → ℕ → Result (List Member) EvalFault
object_at f ts i = object_of f i (slice_get ts i)

abbrev pub value_at : Fun → List ValueTree → ℕ → Answer
value_at f ts i = value_of f i (slice_get ts i)

abbrev pub optional_number_at : Fun → List ValueTree → ℕ → Result (Option ℤ) EvalFault
optional_number_at f ts i = number_or_none f i (slice_get ts i)

abbrev pub optional_text_at : Fun → List ValueTree → ℕ → Result (Option (List ℕ)) EvalFault
optional_text_at f ts i = text_or_none f i (slice_get ts i)

-- a whole number has 64 bits with a sign
abbrev pub fits_i64 : ℤ → Bool
fits_i64 n = int_le (negsuc (2 ^ 63 - 1)) n && int_le n (pos (2 ^ 63 - 1))

-- the number, or `Range` where it has more than 64 bits
abbrev pub in_range : Fun → ℤ → Answer
in_range f n = if fits_i64 n then Ok (number n) else Err (EvalFault.Range f)

-- the value, or `TooBig` where it doesn't fit
abbrev pub bounded : ValueTree → Answer
bounded t = if fits t then Ok t else Err (EvalFault.TooBig (cut_u32 (depth t)) (cut_u64 (weight t)))

-- unless memory ran out, a call gives what its row says
abbrev pub Gives : {X : Type 0} → Result X EvalFault → Result X EvalFault → Type 0
Gives r row = r ≢ Err EvalFault.Memory → r ≡ row

-- the fault that no row names
abbrev pub is_memory : EvalFault → Bool
is_memory EvalFault.Memory = true
is_memory f = false

-- x where a value of this depth and weight fits, else `TooBig`; `bounded` is this test of a value's own
abbrev pub within : {X : Type 0} → ℕ → ℕ → X → Result X EvalFault
within d w x = if (nat_le d 64 && nat_le w (2 ^ 20)) then Ok x else Err (EvalFault.TooBig (cut_u32 d) (cut_u64 w))
