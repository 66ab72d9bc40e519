-- What each argument has, where one more stands behind the others.
use Rattle.std.proofs.Common.{◌≡◌, ℕ, suc, ◌+◌, List, [], ◌∷◌, ◌++◌, Option, Some, Result, Ok, Err, length, refl, sym, ◌∙◌, ap, arith}
use Rattle.std.specs.List.{AllByRecursion}
use Rattle.wf_val.specs.Arguments.{Answer, given}
use Rattle.wf_val.specs.ValueTree.{ValueTree}
use Rattle.wf_val.specs.declared.fault.EvalFault.{EvalFault}
use Rattle.wf_fn_sets.specs.Sets.{each_from}

behind : {X : Type 0} (a : Result X EvalFault) (b : Result (List X) EvalFault) (c : Result X EvalFault) →
    given a (λ x. given (given b (λ xs. given c (λ y. Ok (xs ++ y ∷ [])))) (λ xs. Ok (x ∷ xs)))
    ≡ given (given a (λ x. given b (λ xs. Ok (x ∷ xs)))) (λ xs. given c (λ y. Ok (xs ++ y ∷ [])))
behind (Err f) b c = refl
behind (Ok x) (Err f) c = refl
behind (Ok x) (Ok xs) (Err f) = refl
behind (Ok x) (Ok xs) (Ok y) = refl

-- the part of one more argument stands behind those of the others
pub each-snoc : {X : Type 0} (part : ℕ → Option ValueTree → Result X EvalFault) (i : ℕ) (ts : List ValueTree) (t : ValueTree) →
    each_from part i (ts ++ t ∷ [])
    ≡ given (each_from part i ts) (λ xs. given (part (i + length ts) (Some t)) (λ y. Ok (xs ++ y ∷ [])))
each-snoc part i [] t =
    let place : i ≡ i + 0 = omega arith in
    ap (λ k. given (part k (Some t)) (λ y. Ok (y ∷ []))) place
each-snoc part i (u ∷ ts) t =
    let place : suc i + length ts ≡ i + suc (length ts) = omega arith in
    ap (λ a. given (part i (Some u)) (λ x. given a (λ xs. Ok (x ∷ xs)))) (each-snoc part (suc i) ts t)
    ∙ (behind (part i (Some u)) (each_from part (suc i) ts) (part (suc i + length ts) (Some t))
    ∙ ap (λ k. given (each_from part i (u ∷ ts)) (λ xs. given (part k (Some t)) (λ y. Ok (xs ++ y ∷ [])))) place)

-- each argument has one part
pub each-length : {X : Type 0} (part : ℕ → Option ValueTree → Result X EvalFault) (i : ℕ) (ts : List ValueTree) (xs : List X) →
    each_from part i ts ≡ Ok xs → length xs ≡ length ts
each-length part i [] xs e = let same : [] ≡ xs = cc in ap length (sym same)
each-length {X} part i (t ∷ ts) xs e = go (part i (Some t)) (each_from part (suc i) ts) (λ ys is. each-length part (suc i) ts ys is) e
  where
    go : (a : Result X EvalFault) (b : Result (List X) EvalFault) → ((ys : List X) → b ≡ Ok ys → length ys ≡ length ts) →
        given a (λ x. given b (λ ys. Ok (x ∷ ys))) ≡ Ok xs → length xs ≡ suc (length ts)
    go (Err f) b rest e = absurd cc
    go (Ok x) (Err f) rest e = absurd cc
    go (Ok x) (Ok ys) rest e = let same : x ∷ ys ≡ xs = cc in ap length (sym same) ∙ ap suc (rest ys refl)

-- what follows a value may be told in two ways
pub given-same : {X Y : Type 0} (a : Result X EvalFault) (g h : X → Result Y EvalFault) → ((x : X) → g x ≡ h x) → given a g ≡ given a h
given-same (Ok x) g h same = same x
given-same (Err f) g h same = refl

pub all-snoc : {X : Type 0} (P : X → Type 0) (xs : List X) (x : X) → AllByRecursion P xs → P x → AllByRecursion P (xs ++ x ∷ [])
all-snoc P [] x all one = (one, tt)
all-snoc P (y ∷ ys) x all one = (all.0, all-snoc P ys x all.1 one)

pub all-last : {X : Type 0} (P : X → Type 0) (xs : List X) (x : X) → AllByRecursion P (xs ++ x ∷ []) → P x
all-last P [] x all = all.0
all-last P (y ∷ ys) x all = all-last P ys x all.1

-- a list with an item has a last one
pub record Parted {X : Type 0} (xs : List X) : Type 0 where
  pub front : List X
  pub last : X
  pub whole : xs ≡ front ++ last ∷ []

pub parted : {X : Type 0} (x : X) (xs : List X) → Parted (x ∷ xs)
parted x [] = record { front = []; last = x; whole = refl }
parted x (y ∷ ys) = let rest = parted y ys in
    record { front = x ∷ rest.front; last = rest.last; whole = ap (λ l. x ∷ l) rest.whole }
