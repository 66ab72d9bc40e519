-- The least and the greatest: one more number is taken with the one that is picked of those before it.
use Rattle.std.proofs.Common.{◌≡◌, ℕ, suc, ◌+◌, ◌≤◌, Bool, true, false, List, [], ◌∷◌, ◌++◌, Option, Some, None, Result, Ok, Err, length}
use Rattle.std.proofs.Common.{refl, sym, ◌∙◌, ap, arith, length-append}
use Rattle.std.specs.Prelude.{ℤ, slice_get, if◌then◌else◌}
use Rattle.std.specs.Int.{int_min, int_max}
use Rattle.std.specs.List.{fold}
use Rattle.std.proofs.lemmas.Bool.{le-leb, ne_eqb}
use Rattle.std.proofs.lemmas.List.Sums.{fold-append}
use Rattle.wf_val.specs.Arguments.{Answer, given, number_of}
use Rattle.wf_val.specs.ValueTree.{ValueTree, number}
use Rattle.wf_val.specs.declared.fault.EvalFault.{EvalFault}
use Rattle.wf_val.specs.declared.function.Fun.{Fun}
use Rattle.wf_fn_math.specs.Extremes.{all_numbers, picked_of, items_of, extreme_of, extreme_row}
use Rattle.wf_fn_sets.specs.Sets.{each_from}
use Rattle.wf_functions.specs.Rows.{strict_row}
use Rattle.wf_folds.specs.Paired.{at_place}
use Rattle.wf_folds.specs.Pairing.{IsPairing}
use Rattle.wf_folds.proofs.EachLaws.{each-snoc, each-length, given-same}

module _ (f : Fun) (pick : ℤ → ℤ → ℤ) where
  numbers-each : (i : ℕ) (ts : List ValueTree) → all_numbers f false i ts ≡ each_from (number_of f) i ts
  numbers-each i [] = refl
  numbers-each i (number n ∷ ts) = ap (λ a. given a (λ ns. Ok (n ∷ ns))) (numbers-each (suc i) ts)
  numbers-each i (t ∷ ts) = refl

  -- of two arguments or more the items of none count
  of-many : (ts : List ValueTree) → 2 ≤ length ts → extreme_row f pick ts ≡ given (each_from (number_of f) 0 ts) (picked_of f pick)
  of-many ts le =
      ap (λ b. extreme_of f pick ts (if b then items_of (slice_get ts 0) else None))
      (ne_eqb (length ts) 1 (λ e. absurd (omega (arith, le, e))))
      ∙ ap (λ a. given a (picked_of f pick)) (numbers-each 0 ts)

  with-last : (n : ℕ) (m : ℤ) (ms : List ℤ) (t : ValueTree) →
      given (given (number_of f n (Some t)) (λ k. Ok ((m ∷ ms) ++ k ∷ []))) (picked_of f pick)
      ≡ at_place n (extreme_row f pick (number (fold pick m ms) ∷ t ∷ []))
  with-last n m ms (number k) = ap (λ z. Ok (number z)) (fold-append pick m ms (k ∷ []))
  with-last n m ms t = refl

  with-more : (n : ℕ) (t : ValueTree) (r : Result (List ℤ) EvalFault) → ((ns : List ℤ) → r ≡ Ok ns → 1 ≤ length ns) →
      given (given r (λ ns. given (number_of f n (Some t)) (λ k. Ok (ns ++ k ∷ [])))) (picked_of f pick)
      ≡ given (given r (picked_of f pick)) (λ u. at_place n (extreme_row f pick (u ∷ t ∷ [])))
  with-more n t (Err e) some = refl
  with-more n t (Ok []) some = absurd (omega (arith, some [] refl))
  with-more n t (Ok (m ∷ ms)) some = with-last n m ms t

  extreme-more : (ts : List ValueTree) (t : ValueTree) → 2 ≤ length ts → extreme_row f pick (ts ++ t ∷ [])
      ≡ given (extreme_row f pick ts) (λ u. at_place (length ts) (extreme_row f pick (u ∷ t ∷ [])))
  extreme-more ts t le =
      let place : 0 + length ts ≡ length ts = omega arith in
      of-many (ts ++ t ∷ []) (omega (arith, le, length-append ts (t ∷ [])))
      ∙ (ap (λ a. given a (picked_of f pick)) (each-snoc (number_of f) 0 ts t)
      ∙ (ap (λ n. given (given (each_from (number_of f) 0 ts) (λ ns. given (number_of f n (Some t)) (λ k. Ok (ns ++ k ∷ []))))
      (picked_of f pick)) place
      ∙ (with-more (length ts) t (each_from (number_of f) 0 ts)
      (λ ns is. omega (arith, le, each-length (number_of f) 0 ts ns is))
      ∙ ap (λ a. given a (λ u. at_place (length ts) (extreme_row f pick (u ∷ t ∷ [])))) (sym (of-many ts le)))))

  pub extreme-pairs : ((ts : List ValueTree) → 1 ≤ length ts → strict_row f ts ≡ extreme_row f pick ts) → IsPairing f
  extreme-pairs row ts t le fit fits =
      row (ts ++ t ∷ []) (omega (arith, le, length-append ts (t ∷ [])))
      ∙ (extreme-more ts t le
      ∙ (ap (λ a. given a (λ u. at_place (length ts) (extreme_row f pick (u ∷ t ∷ [])))) (sym (row ts (omega (arith, le))))
      ∙ given-same (strict_row f ts) (λ u. at_place (length ts) (extreme_row f pick (u ∷ t ∷ [])))
      (λ u. at_place (length ts) (strict_row f (u ∷ t ∷ [])))
      (λ u. ap (at_place (length ts)) (sym (row (u ∷ t ∷ []) (omega arith))))))

pub min-pairs : IsPairing Fun.Min
min-pairs = extreme-pairs Fun.Min int_min (λ ts le. rw (le-leb 1 (length ts) le) refl)

pub max-pairs : IsPairing Fun.Max
max-pairs = extreme-pairs Fun.Max int_max (λ ts le. rw (le-leb 1 (length ts) le) refl)
