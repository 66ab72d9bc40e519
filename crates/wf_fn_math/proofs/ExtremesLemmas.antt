-- What is picked of values, by those before a place and those from it on.
use Rattle.std.proofs.Common.{◌≡◌, ℕ, suc, List, [], ◌∷◌, map, drop, zero, ◌+◌, ◌<◌, length, get_or, refl, sym, ◌∙◌, ap, arith, Option}
use Rattle.std.proofs.Common.{Some, None, Result, Ok, Err, Bool}
use Rattle.std.specs.Prelude.{ℤ}
use Rattle.std.specs.List.{fold}
use Rattle.wf_val.specs.Arguments.{Answer, given}
use Rattle.wf_fn_math.specs.Extremes.{all_numbers, picked_of, better}
use Rattle.wf_val.specs.Seen.{tree}
use Rattle.wf_val.specs.declared.val.Val.{Val}
use Rattle.wf_val.specs.ValueTree.{ValueTree, number}
use Rattle.wf_val.specs.declared.fault.EvalFault.{EvalFault}
use Rattle.wf_val.specs.declared.function.Fun.{Fun}

-- what is picked of the number picked so far, if any, and of further numbers
abbrev pub picked_on : Fun → (ℤ → ℤ → ℤ) → Option ℤ → List ℤ → Answer
picked_on f pick None ns = picked_of f pick ns
picked_on f pick (Some n) ns = Ok (number (fold pick n ns))

-- the same, of the values from a place on
abbrev pub picked_from : Fun → (ℤ → ℤ → ℤ) → Bool → Option ℤ → ℕ → List ValueTree → Answer
picked_from f pick in_list best i ts = given (all_numbers f in_list i ts) (picked_on f pick best)

-- a number picked out of is one with those before it
number_taken : (f : Fun) (pick : ℤ → ℤ → ℤ) (best : Option ℤ) (n : ℤ) (r : Result (List ℤ) EvalFault)
    → given (given r (λ ns. Ok (n ∷ ns))) (picked_on f pick best) ≡ given r (picked_on f pick (Some (better pick best n)))
number_taken f pick None n (Ok ns) = refl
number_taken f pick (Some m) n (Ok ns) = refl
number_taken f pick None n (Err e) = refl
number_taken f pick (Some m) n (Err e) = refl

picked_from-number : (f : Fun) (pick : ℤ → ℤ → ℤ) (in_list : Bool) (best : Option ℤ) (i : ℕ) (n : ℤ) (ts : List ValueTree)
    → picked_from f pick in_list best i (number n ∷ ts) ≡ picked_from f pick in_list (Some (better pick best n)) (suc i) ts
picked_from-number f pick in_list best i n ts = number_taken f pick best n (all_numbers f in_list (suc i) ts)

-- the rest of a list from an item on
drop-item : {X : Type 0} (xs : List X) (i : ℕ) (x : X) → i < length xs → x ≡ get_or xs i x → drop i xs ≡ x ∷ drop (suc i) xs
drop-item [] i x lt e = absurd (omega arith)
drop-item (y ∷ ys) zero x lt e = ap (λ z. z ∷ ys) (sym e)
drop-item (y ∷ ys) (suc i) x lt e = drop-item ys i x (omega arith) e

-- a step over a number
pub picked_from-step : (f : Fun) (pick : ℤ → ℤ → ℤ) (in_list : Bool) (best : Option ℤ) (xs : List Val) (i : ℕ) (x : Val) (n m : ℤ)
    → i < length xs → x ≡ get_or xs i x → x ≡ Val.Int n → m ≡ better pick best n
    → picked_from f pick in_list best i (map tree (drop i xs)) ≡ picked_from f pick in_list (Some m) (i + 1) (map tree (drop (i + 1) xs))
picked_from-step f pick in_list best xs i x n m lt at is taken =
    let stepped : drop i xs ≡ Val.Int n ∷ drop (suc i) xs = drop-item xs i x lt at ∙ ap (λ v. v ∷ drop (suc i) xs) is in
    let next : suc i ≡ i + 1 = omega arith in
    rw (stepped, taken, ← next) (picked_from-number f pick in_list best i n (map tree (drop (suc i) xs)))
