-- What is made of arguments two by two is what the function gives of all of them.
use Rattle.std.proofs.Common.{◌≡◌, ℕ, suc, ◌≤◌, List, [], ◌∷◌, ◌++◌, Ok, Err, length, refl, sym, ◌∙◌, ap, subst, arith, length-append}
use Rattle.std.proofs.Common.{append_assoc, true}
use Rattle.std.proofs.lemmas.List.{append-nil}
use Rattle.std.specs.List.{AllByRecursion, fold}
use Rattle.wf_val.specs.Arguments.{Answer, given}
use Rattle.wf_val.specs.Cut.{cut_u32, cut_u64}
use Rattle.wf_val.specs.ValueTree.{ValueTree, Fits}
use Rattle.wf_val.specs.declared.fault.EvalFault.{EvalFault}
use Rattle.wf_val.specs.declared.function.Fun.{Fun}
use Rattle.wf_functions.specs.Rows.{strict_row}
use Rattle.wf_folds.specs.Paired.{SoFar, nothing, only, together, refused, PairedSoFar, nothing_paired, at_place, so_far_of, so_far_with}
use Rattle.wf_folds.specs.Paired.{with_value, so_far_answer, paired_answer, paired_of}
use Rattle.wf_folds.specs.Pairing.{IsPairing, is_pairing}
use Rattle.wf_folds.proofs.EachLaws.{all-snoc}
use Rattle.wf_folds.proofs.ExtremeLaws.{min-pairs, max-pairs}
use Rattle.wf_folds.proofs.IntersectionLaws.{intersection-pairs}

abbrev IsKept : Fun → SoFar → List ValueTree → Type 0
IsKept f nothing ts = ts ≡ []
IsKept f (only u) ts = ts ≡ u ∷ []
IsKept f (together u) ts = (2 ≤ length ts) × (strict_row f ts ≡ Ok u)
IsKept f (refused e) ts = (2 ≤ length ts) × (strict_row f ts ≡ Err e)

kept-of : (f : Fun) (ts : List ValueTree) (a : Answer) → 2 ≤ length ts → strict_row f ts ≡ a → IsKept f (so_far_of a) ts
kept-of f ts (Ok u) le is = (le, is)
kept-of f ts (Err e) le is = (le, is)

place-cut : (n : ℕ) (a : Answer) → at_place (cut_u64 n) a ≡ at_place n a
place-cut n (Ok t) = refl
place-cut n (Err (EvalFault.WrongType f p)) =
    let same : cut_u32 (suc (cut_u64 n)) ≡ cut_u32 (suc n) = omega arith in
    ap (λ k. Err (EvalFault.WrongType f k)) same
place-cut n (Err f) = refl

longer : (ts : List ValueTree) (t : ValueTree) → 2 ≤ length ts → 2 ≤ length (ts ++ t ∷ [])
longer ts t le = omega (arith, le, length-append ts (t ∷ []))

one-more : (f : Fun) → IsPairing f → (k : SoFar) (ts : List ValueTree) (t : ValueTree) (i : ℕ) → i ≡ cut_u64 (length ts) →
    AllByRecursion Fits ts → Fits t → IsKept f k ts → IsKept f (so_far_with f i k t) (ts ++ t ∷ [])
one-more f pairs nothing ts t i count fit fits is = ap (λ us. us ++ t ∷ []) is
one-more f pairs (only u) ts t i count fit fits is =
    let both : ts ++ t ∷ [] ≡ u ∷ t ∷ [] = ap (λ us. us ++ t ∷ []) is in
    subst (IsKept f (so_far_of (strict_row f (u ∷ t ∷ [])))) (sym both)
    (kept-of f (u ∷ t ∷ []) (strict_row f (u ∷ t ∷ [])) (omega arith) refl)
one-more f pairs (together u) ts t i count fit fits is =
    kept-of f (ts ++ t ∷ []) (at_place i (strict_row f (u ∷ t ∷ []))) (longer ts t is.0)
    (pairs ts t is.0 fit fits
    ∙ (ap (λ a. given a (λ v. at_place (length ts) (strict_row f (v ∷ t ∷ [])))) is.1
    ∙ sym (ap (λ n. at_place n (strict_row f (u ∷ t ∷ []))) count ∙ place-cut (length ts) (strict_row f (u ∷ t ∷ [])))))
one-more f pairs (refused e) ts t i count fit fits is =
    (longer ts t is.0, pairs ts t is.0 fit fits ∙ ap (λ a. given a (λ v. at_place (length ts) (strict_row f (v ∷ t ∷ [])))) is.1)

kept-answer : (f : Fun) (k : SoFar) (ts : List ValueTree) → IsKept f k ts → so_far_answer f k ≡ strict_row f ts
kept-answer f nothing ts is = ap (strict_row f) (sym is)
kept-answer f (only u) ts is = ap (strict_row f) (sym is)
kept-answer f (together u) ts is = sym is.1
kept-answer f (refused e) ts is = sym is.1

-- what is kept is of these arguments
pub record IsOf (f : Fun) (p : PairedSoFar) (ts : List ValueTree) : Type 0 where
  pub function : p.0 ≡ f
  pub kept : IsKept f p.1.0 ts
  pub count : p.1.1 ≡ cut_u64 (length ts)
  pub fit : AllByRecursion Fits ts

pub none-yet : (f : Fun) → IsOf f (nothing_paired f) []
none-yet f = record { function = refl; kept = refl; count = refl; fit = tt }

pub with-more : (f : Fun) → IsPairing f → (p : PairedSoFar) (ts : List ValueTree) (t : ValueTree) → Fits t → IsOf f p ts →
    IsOf f (with_value t p) (ts ++ t ∷ [])
with-more f pairs p ts t fits is = record {
  function = is.function;
  kept = subst (λ g. IsKept f (so_far_with g p.1.1 p.1.0 t) (ts ++ t ∷ [])) (sym is.function)
      (one-more f pairs p.1.0 ts t p.1.1 is.count is.fit fits is.kept);
  count = omega (arith, is.count, length-append ts (t ∷ []));
  fit = all-snoc Fits ts t is.fit fits;
}

pub answer-is : (f : Fun) (p : PairedSoFar) (ts : List ValueTree) → IsOf f p ts → paired_answer p ≡ strict_row f ts
answer-is f p ts is = ap (λ g. so_far_answer g p.1.0) is.function ∙ kept-answer f p.1.0 ts is.kept

all-more : (f : Fun) → IsPairing f → (p : PairedSoFar) (done ts : List ValueTree) → AllByRecursion Fits ts → IsOf f p done →
    IsOf f (fold (λ q t. with_value t q) p ts) (done ++ ts)
all-more f pairs p done [] fit is = subst (IsOf f p) (sym (append-nil done)) is
all-more f pairs p done (t ∷ ts) fit is =
    subst (IsOf f (fold (λ q u. with_value u q) (with_value t p) ts)) (append_assoc done (t ∷ []) ts)
    (all-more f pairs (with_value t p) (done ++ t ∷ []) ts fit.1 (with-more f pairs p done t fit.0 is))

pub are-pairing : (f : Fun) → is_pairing f ≡ true → IsPairing f
are-pairing Fun.Min is = min-pairs
are-pairing Fun.Max is = max-pairs
are-pairing Fun.Intersection is = intersection-pairs
are-pairing f is = absurd cc

pub pairs-are-the-row : (f : Fun) (ts : List ValueTree) → is_pairing f ≡ true → AllByRecursion Fits ts →
    paired_answer (paired_of f ts) ≡ strict_row f ts
pairs-are-the-row f ts is fit = answer-is f (paired_of f ts) ts (all-more f (are-pairing f is) (nothing_paired f) [] ts fit (none-yet f))
