-- The parameter that is named is the least that fails.
use Rattle.std.proofs.Common.{◌≡◌, ℕ, zero, suc, ◌<◌, List, [], ◌∷◌, length, get_or, Bool, true, false, Some, cond, Less, refl, sym, ap}
use Rattle.std.proofs.Common.{◌∙◌, subst, arith}
use Rattle.std.specs.List.{AllByRecursion, Contains}
use Rattle.std.proofs.lemmas.Cmp.{nat_list_cmp_total, tied_itself}
use Rattle.wf_def.specs.DefTree.{ParamTree}
use Rattle.wf_trigger.specs.Parameters.{fails, first_failing, given_value}
use Rattle.wf_trigger.specs.declared.parameters.Want.{Want}
use Rattle.wf_val.specs.NameOrder.{IsInNameOrder, bytes_cmp}
use Rattle.wf_val.specs.ValueTree.{Member}

not_below_itself : (name : List ℕ) → bytes_cmp name name ≡ Less → ⊥
not_below_itself name below = let tied = tied_itself nat_list_cmp_total name in cc

-- a name above another isn't below it
above : (one other : List ℕ) → bytes_cmp one other ≡ Less → bytes_cmp other one ≡ Less → ⊥
above one other below back = not_below_itself one (nat_list_cmp_total.trans one other one below back)

all_named : (P : ParamTree → Type 0) (ps : List ParamTree) (q : ParamTree) (i : ℕ) → i < length ps → get_or ps i q ≡ q
    → AllByRecursion P ps → P q
all_named P [] q i within is all = absurd (omega (arith, within))
all_named P (p ∷ ps) q zero within is all = subst P is all.0
all_named P (p ∷ ps) q (suc i) within is all = all_named P ps q i (omega (arith, within)) is all.1

module _ (handed given : List Member) (want : Want) where
  abbrev Fails : ParamTree → Type 0
  Fails p = fails want p (given_value handed given p) ≡ true

  abbrev NoneBelow : List ParamTree → List ℕ → Type 0
  NoneBelow ps name = (q : ParamTree) → Contains ps q → Fails q → bytes_cmp q.name name ≡ Less → ⊥

  none_below : (p : ParamTree) (ps : List ParamTree) (name : List ℕ) (b : Bool) → fails want p (given_value handed given p) ≡ b
      → AllByRecursion (λ (q : ParamTree). bytes_cmp p.name q.name ≡ Less) ps
      → cond b (Some p.name) (first_failing handed given want ps) ≡ Some name
      → (first_failing handed given want ps ≡ Some name → NoneBelow ps name) → NoneBelow (p ∷ ps) name
  none_below p ps name true is after named later q (zero, within, at) failing below =
      let same : p.name ≡ name = cc in
      not_below_itself name (subst (λ k. bytes_cmp k name ≡ Less) (ap (λ (r : ParamTree). r.name) (sym at) ∙ same) below)
  none_below p ps name true is after named later q (suc k, within, at) failing below =
      let same : p.name ≡ name = cc in
      let front = all_named (λ (r : ParamTree). bytes_cmp p.name r.name ≡ Less) ps q k (omega (arith, within)) at after in
      above p.name q.name front (subst (λ k. bytes_cmp q.name k ≡ Less) (sym same) below)
  none_below p ps name false is after named later q (zero, within, at) failing below =
      let fine : fails want q (given_value handed given q) ≡ false = subst (λ (r : ParamTree). fails want r (given_value handed given r)
      ≡ false) at is in cc
  none_below p ps name false is after named later q (suc k, within, at) failing below =
      later named q (k, omega (arith, within), at) failing below

  first-none_below : (ps : List ParamTree) (name : List ℕ) → IsInNameOrder (λ (q : ParamTree). q.name) ps
      → first_failing handed given want ps ≡ Some name → NoneBelow ps name
  first-none_below [] name order named = absurd (cc)
  first-none_below (p ∷ ps) name order named =
      none_below p ps name (fails want p (given_value handed given p)) refl order.0 named (first-none_below ps name order.1)

pub first_failing-least : (handed given : List Member) (want : Want) (params : List ParamTree) (p : ParamTree)
    → IsInNameOrder (λ (q : ParamTree). q.name) params → first_failing handed given want params ≡ Some p.name
    → (q : ParamTree) → Contains params q → fails want q (given_value handed given q) ≡ true → bytes_cmp q.name p.name ≡ Less → ⊥
first_failing-least handed given want params p order named = first-none_below handed given want params p.name order named
