-- The arguments read from left to right, and those that are left.
use Rattle.std.proofs.Common.{◌≡◌, ℕ, zero, suc, ◌+◌, ◌<◌, List, [], ◌∷◌, ◌++◌, length, drop, Option, Result, Ok, Err, refl, sym, ◌∙◌, ap}
use Rattle.std.proofs.Common.{arith, append_assoc}
use Rattle.std.specs.Prelude.{slice_get}
use Rattle.wf_val.specs.Arguments.{given}
use Rattle.wf_val.specs.ValueTree.{ValueTree}
use Rattle.wf_val.specs.declared.fault.EvalFault.{EvalFault}
use Rattle.wf_fn_sets.specs.Sets.{each_from}

-- none are read yet
pub all-left : {X : Type 0} (r : Result (List X) EvalFault) → given r (λ more. Ok ([] ++ more)) ≡ r
all-left (Ok xs) = refl
all-left (Err f) = refl

-- what is left at a place, with the argument there
left-at : {X : Type 0} (part : ℕ → Option ValueTree → Result X EvalFault) (ts : List ValueTree) (i n : ℕ) → i < length ts
    → each_from part n (drop i ts) ≡ given (part n (slice_get ts i))
    (λ x. given (each_from part (suc n) (drop (i + 1) ts)) (λ xs. Ok (x ∷ xs)))
left-at part [] i n lt = absurd (omega (arith, lt))
left-at part (t ∷ ts) zero n lt = refl
left-at part (t ∷ ts) (suc i) n lt =
    let next : suc i + 1 ≡ suc (i + 1) = omega arith in
    left-at part ts i n (omega (arith, lt))
    ∙ ap (λ k. given (part n (slice_get ts i)) (λ x. given (each_from part (suc n) (drop k (t ∷ ts))) (λ xs. Ok (x ∷ xs)))) (sym next)

onto : {X : Type 0} (done : List X) (x : X) (r : Result (List X) EvalFault)
    → given (given r (λ xs. Ok (x ∷ xs))) (λ more. Ok (done ++ more)) ≡ given r (λ more. Ok ((done ++ x ∷ []) ++ more))
onto done x (Ok xs) = ap Ok (sym (append_assoc done (x ∷ []) xs))
onto done x (Err f) = refl

-- one more is read
pub one-read : {X : Type 0} (part : ℕ → Option ValueTree → Result X EvalFault) (ts : List ValueTree) (i : ℕ) (done : List X) (x : X)
    → i < length ts → part i (slice_get ts i) ≡ Ok x
    → given (each_from part (i + 1) (drop (i + 1) ts)) (λ more. Ok ((done ++ x ∷ []) ++ more))
    ≡ given (each_from part i (drop i ts)) (λ more. Ok (done ++ more))
one-read part ts i done x lt is =
    let next : suc i ≡ i + 1 = omega arith in
    sym (ap (λ r. given r (λ more. Ok (done ++ more)))
    (left-at part ts i i lt ∙ ap (λ r. given r (λ y. given (each_from part (suc i) (drop (i + 1) ts)) (λ xs. Ok (y ∷ xs)))) is)
    ∙ onto done x (each_from part (suc i) (drop (i + 1) ts))
    ∙ ap (λ n. given (each_from part n (drop (i + 1) ts)) (λ more. Ok ((done ++ x ∷ []) ++ more))) next)

-- one is of another type
pub one-refused : {X : Type 0} (part : ℕ → Option ValueTree → Result X EvalFault) (ts : List ValueTree) (i : ℕ) (done : List X)
    (f : EvalFault) → i < length ts → part i (slice_get ts i) ≡ Err f
    → given (each_from part i (drop i ts)) (λ more. Ok (done ++ more)) ≡ Err f
one-refused part ts i done f lt is =
    ap (λ r. given r (λ more. Ok (done ++ more)))
    (left-at part ts i i lt ∙ ap (λ r. given r (λ y. given (each_from part (suc i) (drop (i + 1) ts)) (λ xs. Ok (y ∷ xs)))) is)
