-- What numbers in a row measure.
use Rattle.std.proofs.Common.{◌≡◌, ◌∙◌, ℕ, zero, suc, ◌+◌, ◌^◌, ◌<◌, ◌≤◌, ◌++◌, List, [], ◌∷◌, length, map, refl, ap, arith, cond, false}
use Rattle.std.proofs.Common.{nat_le, Some, option_map, Ok, Err}
use Rattle.std.proofs.lemmas.Bool.Decides.{nat_tests}
use Rattle.std.proofs.lemmas.List.{length-map}
use Rattle.std.proofs.lemmas.Option.{slice_get-map}
use Rattle.std.specs.Prelude.{ℤ, pos, ◌+ℤ◌, slice_get}
use Rattle.wf_val.specs.Cut.{cut_u64}
use Rattle.wf_val.specs.declared.fault.EvalFault.{EvalFault}
use Rattle.std.proofs.lemmas.List.FromFn.{map-range_with_len_more}
use Rattle.std.specs.List.{range_with_len}
use Rattle.wf_val.specs.Arguments.{bounded, within}
use Rattle.wf_val.specs.ValueTree.{number, list, trees, trees_depth, trees_weight}
use Rattle.wf_fn_list.specs.Ranges.{numbers_from}

flat-depth : (f : ℕ → ℤ) (ks : List ℕ) → trees_depth (trees (map (λ k. number (f k)) ks)) ≡ 0
flat-depth f [] = refl
flat-depth f (k ∷ ks) = rw (flat-depth f ks) refl

flat-weight : (f : ℕ → ℤ) (a n : ℕ) → trees_weight (trees (map (λ k. number (f k)) (range_with_len a n))) ≡ n
flat-weight f a zero = refl
flat-weight f a (suc n) = rw (flat-weight f (a + 1) n) (omega arith)

-- the row of the numbers, by what they measure
pub measured : (first : ℤ) (n : ℕ) → bounded (list (trees (numbers_from first n))) ≡ within 1 (1 + n) (list (trees (numbers_from first n)))
measured first n = rw (flat-depth (λ k. first +ℤ pos k) (range_with_len 0 n), flat-weight (λ k. first +ℤ pos k) 0 n) refl

-- one more
pub numbers-more : (first : ℤ) (n : ℕ) → numbers_from first (n + 1) ≡ numbers_from first n ++ number (first +ℤ pos n) ∷ []
numbers-more first n = map-range_with_len_more (λ k. number (first +ℤ pos k)) 0 n n (omega arith)

-- so many numbers
range-length : (a n : ℕ) → length (range_with_len a n) ≡ n
range-length a zero = refl
range-length a (suc n) = rw (range-length (a + 1) n) (omega arith)

pub numbers-count : (first : ℤ) (count : ℕ) → length (numbers_from first count) ≡ count
numbers-count first count = length-map (range_with_len 0 count) (λ k. number (first +ℤ pos k)) ∙ range-length 0 count

-- each as far above the first as its place says
range-at : (a n k : ℕ) → k < n → slice_get (range_with_len a n) k ≡ Some (a + k)
range-at a zero k lt = absurd (omega (arith, lt))
range-at a (suc n) zero lt = let none : a ≡ a + 0 = omega arith in ap Some none
range-at a (suc n) (suc k) lt =
    let next : a + 1 + k ≡ a + suc k = omega arith in
    range-at (a + 1) n k (omega (arith, lt)) ∙ ap Some next

pub number-at : (first : ℤ) (count place : ℕ) → place < count → slice_get (numbers_from first count) place
    ≡ Some (number (first +ℤ pos place))
number-at first count place lt =
    let none : 0 + place ≡ place = omega arith in
    slice_get-map (λ k. number (first +ℤ pos k)) (range_with_len 0 count) place
    ∙ ap (option_map (λ k. number (first +ℤ pos k))) (range-at 0 count place lt ∙ ap Some none)

-- too many of them
past-within : {X : Type 0} (n : ℕ) (x : X) → 2 ^ 20 ≤ n → within 1 (1 + n) x ≡ Err (EvalFault.TooBig 1 (cut_u64 (1 + n)))
past-within n x past =
    let over : nat_le (1 + n) (2 ^ 20) ≡ false = grind (arith, nat_tests) in
    ap (λ b. cond b (Ok x) (Err (EvalFault.TooBig 1 (cut_u64 (1 + n))))) over

pub numbers-too_big : (first : ℤ) (count : ℕ) → 2 ^ 20 ≤ count → bounded (list (trees (numbers_from first count)))
    ≡ Err (EvalFault.TooBig 1 (cut_u64 (1 + count)))
numbers-too_big first count past = measured first count ∙ past-within count (list (trees (numbers_from first count))) past
