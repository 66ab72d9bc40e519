-- `intersection`: one argument more is taken with what those before it have in common.
use Rattle.std.proofs.Common.{◌≡◌, ℕ, ◌≤◌, List, [], ◌∷◌, ◌++◌, length, refl, sym, ◌∙◌, ap, arith, length-append}
use Rattle.std.proofs.lemmas.Bool.{le-leb}
use Rattle.std.specs.List.{AllByRecursion}
use Rattle.wf_val.specs.Arguments.{given}
use Rattle.wf_val.specs.ValueTree.{ValueTree, list, object, Fits}
use Rattle.wf_val.specs.declared.function.Fun.{Fun}
use Rattle.wf_fn_sets.specs.Sets.{intersection_row}
use Rattle.wf_functions.specs.Rows.{strict_row}
use Rattle.wf_folds.specs.Paired.{at_place}
use Rattle.wf_folds.specs.Pairing.{IsPairing}
use Rattle.wf_folds.proofs.EachLaws.{given-same}
use Rattle.wf_folds.proofs.CommonItems.{lists-more}
use Rattle.wf_folds.proofs.CommonMembers.{objects-more}

row-is : (ts : List ValueTree) → 2 ≤ length ts → strict_row Fun.Intersection ts ≡ intersection_row ts
row-is ts le = rw (le-leb 2 (length ts) le) refl

row-more : (ts : List ValueTree) (t : ValueTree) → 1 ≤ length ts → AllByRecursion Fits ts → intersection_row (ts ++ t ∷ [])
    ≡ given (intersection_row ts) (λ u. at_place (length ts) (intersection_row (u ∷ t ∷ [])))
row-more [] t le fit = absurd (omega (arith, le))
row-more (list xs ∷ ts) t le fit = lists-more xs ts t fit.0
row-more (object ms ∷ ts) t le fit = objects-more ms ts t fit.0 fit.1
row-more (u ∷ ts) t le fit = refl

pub intersection-pairs : IsPairing Fun.Intersection
intersection-pairs ts t le fit fits =
    row-is (ts ++ t ∷ []) (omega (arith, le, length-append ts (t ∷ [])))
    ∙ (row-more ts t (omega (arith, le)) fit
    ∙ (ap (λ a. given a (λ u. at_place (length ts) (intersection_row (u ∷ t ∷ [])))) (sym (row-is ts le))
    ∙ given-same (strict_row Fun.Intersection ts) (λ u. at_place (length ts) (intersection_row (u ∷ t ∷ [])))
    (λ u. at_place (length ts) (strict_row Fun.Intersection (u ∷ t ∷ [])))
    (λ u. ap (at_place (length ts)) (sym (row-is (u ∷ t ∷ []) (omega arith))))))
