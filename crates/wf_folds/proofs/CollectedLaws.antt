-- Items that are measured as they are put together are their list, where it fits.
use Rattle.std.proofs.Common.{◌≡◌, ℕ, suc, ◌+◌, ◌<◌, ◌≤◌, ◌^◌, max, Bool, true, false, List, [], ◌∷◌, ◌++◌, Ok, Err, refl, sym, ◌∙◌, ap}
use Rattle.std.proofs.Common.{arith, ◌⊎◌, inl, inr}
use Rattle.std.specs.Prelude.{nat_le, ◌&&◌, if◌then◌else◌}
use Rattle.std.proofs.lemmas.Bool.{lt-ltb, le-leb, lt-leb, cases_lt}
use Rattle.wf_val.specs.Arguments.{bounded, within}
use Rattle.wf_val.specs.Cut.{cut_u32, cut_u64}
use Rattle.wf_val.specs.ValueTree.{ValueTree, list, trees, depth, weight, trees_depth, trees_weight}
use Rattle.wf_val.specs.declared.fault.EvalFault.{EvalFault}
use Rattle.wf_functions.specs.Collected.{Collected, nothing, with_item, collected_answer}

-- the size is that of all, and as long as they may fit all are kept
pub record IsOf (c : Collected) (ts : List ValueTree) : Type 0 where
  pub deep : c.1.0 ≡ cut_u32 (trees_depth (trees ts))
  pub heavy : c.1.1 ≡ cut_u64 (trees_weight (trees ts))
  pub kept : trees_weight (trees ts) < 2 ^ 20 → c.0 ≡ ts

depth-snoc : (ts : List ValueTree) (t : ValueTree) → trees_depth (trees (ts ++ t ∷ [])) ≡ max (trees_depth (trees ts)) (depth t)
depth-snoc [] t = omega arith
depth-snoc (u ∷ ts) t = omega (arith, depth-snoc ts t)

weight-snoc : (ts : List ValueTree) (t : ValueTree) → trees_weight (trees (ts ++ t ∷ [])) ≡ trees_weight (trees ts) + weight t
weight-snoc [] t = omega arith
weight-snoc (u ∷ ts) t = omega (arith, weight-snoc ts t)

pub item-more : (c : Collected) (ts : List ValueTree) (t : ValueTree) → IsOf c ts → IsOf (with_item t c) (ts ++ t ∷ [])
item-more c ts t is =
    let w : cut_u64 (cut_u64 (weight t) + c.1.1) ≡ cut_u64 (trees_weight (trees (ts ++ t ∷ []))) =
    omega (arith, is.heavy, weight-snoc ts t) in
    record {
      deep = omega (arith, is.deep, depth-snoc ts t);
      heavy = w;
      kept = λ lt. rw (lt-ltb (cut_u64 (cut_u64 (weight t) + c.1.1)) (2 ^ 20) (omega (arith, w, lt)))
          (ap (λ us. us ++ t ∷ []) (is.kept (omega (arith, lt, weight-snoc ts t))));
    }

cut-32 : (n : ℕ) → nat_le (cut_u32 n) 64 ≡ nat_le n 64
cut-32 n = go (cases_lt 64 n)
  where
    go : (64 < n) ⊎ (n ≤ 64) → nat_le (cut_u32 n) 64 ≡ nat_le n 64
    go (inl lt) = lt-leb (cut_u32 n) 64 (omega (arith, lt)) ∙ sym (lt-leb n 64 lt)
    go (inr le) = le-leb (cut_u32 n) 64 (omega (arith, le)) ∙ sym (le-leb n 64 le)

cut-64 : (n : ℕ) → nat_le (cut_u64 n) (2 ^ 20) ≡ nat_le n (2 ^ 20)
cut-64 n = go (cases_lt (2 ^ 20) n)
  where
    go : (2 ^ 20 < n) ⊎ (n ≤ 2 ^ 20) → nat_le (cut_u64 n) (2 ^ 20) ≡ nat_le n (2 ^ 20)
    go (inl lt) = lt-leb (cut_u64 n) (2 ^ 20) (omega (arith, lt)) ∙ sym (lt-leb n (2 ^ 20) lt)
    go (inr le) = le-leb (cut_u64 n) (2 ^ 20) (omega (arith, le)) ∙ sym (le-leb n (2 ^ 20) le)

-- a size is tested alike before it is cut and after
within-cut : (d w : ℕ) (v : ValueTree) → within (cut_u32 d) (cut_u64 w) v ≡ within d w v
within-cut d w v =
    let deep : cut_u32 (cut_u32 d) ≡ cut_u32 d = omega arith in
    let heavy : cut_u64 (cut_u64 w) ≡ cut_u64 w = omega arith in
    ap (λ f. if (nat_le (cut_u32 d) 64 && nat_le (cut_u64 w) (2 ^ 20)) then Ok v else Err f)
    (ap (λ k. EvalFault.TooBig k (cut_u64 (cut_u64 w))) deep ∙ ap (λ k. EvalFault.TooBig (cut_u32 d) k) heavy)
    ∙ ap (λ b. if b then Ok v else Err (EvalFault.TooBig (cut_u32 d) (cut_u64 w)))
    (ap (λ b. b && nat_le (cut_u64 w) (2 ^ 20)) (cut-32 d) ∙ ap (λ b. nat_le d 64 && b) (cut-64 w))

-- what doesn't fit is never looked at
not-kept : (b : Bool) (u v : ValueTree) (f : EvalFault) →
    (if (b && false) then Ok u else Err f) ≡ (if (b && false) then Ok v else Err f)
not-kept true u v f = refl
not-kept false u v f = refl

pub all-is : (c : Collected) (ts : List ValueTree) → IsOf c ts → collected_answer c ≡ bounded (list (trees ts))
all-is c ts is =
    let d = depth (list (trees ts)) in
    let w = weight (list (trees ts)) in
    let deep : cut_u32 (suc c.1.0) ≡ cut_u32 d = omega (arith, is.deep) in
    let heavy : cut_u64 (suc c.1.1) ≡ cut_u64 w = omega (arith, is.heavy) in
    ap (λ k. within k (cut_u64 (suc c.1.1)) (list (trees c.0))) deep
    ∙ (ap (λ k. within (cut_u32 d) k (list (trees c.0))) heavy
    ∙ (within-cut d w (list (trees c.0)) ∙ go (cases_lt (trees_weight (trees ts)) (2 ^ 20))))
  where
    go : (trees_weight (trees ts) < 2 ^ 20) ⊎ (2 ^ 20 ≤ trees_weight (trees ts)) →
        within (depth (list (trees ts))) (weight (list (trees ts))) (list (trees c.0)) ≡ bounded (list (trees ts))
    go (inl lt) = ap (λ us. within (depth (list (trees ts))) (weight (list (trees ts))) (list (trees us))) (is.kept lt)
    go (inr le) =
        rw (lt-leb (weight (list (trees ts))) (2 ^ 20) (omega (arith, le)))
        (not-kept (nat_le (depth (list (trees ts))) 64) (list (trees c.0)) (list (trees ts))
        (EvalFault.TooBig (cut_u32 (depth (list (trees ts)))) (cut_u64 (weight (list (trees ts))))))

pub none-yet : IsOf nothing []
none-yet = record { deep = refl; heavy = refl; kept = λ lt. refl }
