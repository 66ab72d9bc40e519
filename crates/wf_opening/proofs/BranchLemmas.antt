-- The branch of a Switch: by counting cases.
use Rattle.std.proofs.Common.{◌≡◌, ℕ, zero, suc, ◌<◌, true, false, List, [], ◌∷◌}
use Rattle.std.proofs.Common.{refl, sym, ap, ◌∙◌, subst, arith, true≢false}
use Rattle.std.specs.Prelude.{◌≢◌, ◌↔◌, if◌then◌else◌}
use Rattle.std.specs.Ordering.{is_eq}
use Rattle.std.specs.declared.cmp.Ordering.{Ordering}
use Rattle.wf_val.specs.ValueOrder.{order}
use Rattle.wf_val.specs.ValueTree.{ValueTree}
use Rattle.wf_def.specs.ActionTree.{CaseTree, CaseTrees, no_cases, case_then, case_trees}
use Rattle.wf_opening.specs.Branches.{IsBranchOf, IsOther, first, behind}
use Rattle.wf_opening.specs.Decisions.{branch_from}

equal_of : (o : Ordering) → is_eq o ≡ true → o ≡ Ordering.Equal
equal_of Ordering.Equal e = refl
equal_of Ordering.Less e = cc
equal_of Ordering.Greater e = cc

-- counting from one more gives one more
one_more : (n : ℕ) (cases : CaseTrees) (v : ValueTree) → branch_from (suc n) cases v ≡ suc (branch_from n cases v)
one_more n no_cases v = refl
one_more n (case_then name value graph rest) v =
    elim (is_eq (order value v)) as (λ b. (if b then suc n else branch_from (suc (suc n)) rest v)
    ≡ suc (if b then n else branch_from (suc n) rest v)) [
      | true ↦ refl
      | false ↦ one_more (suc n) rest v
    ]

module _ (v : ValueTree) where
  -- a case in front that has another value
  other : (c : CaseTree) (cases : List CaseTree) (j : ℕ) → c.1.0 ≢ v → ((i : ℕ) → i < j → IsOther cases v i)
      → (i : ℕ) → i < suc j → IsOther (c ∷ cases) v i
  other c cases j differs before zero lt = λ case at same. differs (cc)
  other c cases j differs before (suc i) lt = before i (omega arith)

  other_all : (c : CaseTree) (cases : List CaseTree) → c.1.0 ≢ v → ((i : ℕ) → IsOther cases v i) → (i : ℕ) → IsOther (c ∷ cases) v i
  other_all c cases differs all zero = λ case at same. differs (cc)
  other_all c cases differs all (suc i) = all i

  behind_it : (c : CaseTree) (cases : List CaseTree) → c.1.0 ≢ v → (n : ℕ) → IsBranchOf cases v n → IsBranchOf (c ∷ cases) v (suc n)
  behind_it c cases differs zero is = elim is [ ]
  behind_it c cases differs (suc n) (first k case at same before) = first (suc k) case at same (other c cases k differs before)
  behind_it c cases differs (suc n) (behind all) = behind (other_all c cases differs all)

pub branch : ((x y : ValueTree) → (order x y ≡ Ordering.Equal) ↔ (x ≡ y)) → (cases : List CaseTree) (v : ValueTree)
    → IsBranchOf cases v (branch_from 1 (case_trees cases) v)
branch exact [] v = behind (λ j case at. cc)
branch exact (c ∷ cases) v = elim (is_eq (order c.1.0 v)) as (λ b. is_eq (order c.1.0 v) ≡ b
    → IsBranchOf (c ∷ cases) v (if b then 1 else branch_from 2 (case_trees cases) v)) [
      | true ↦ λ e. first 0 c refl ((exact c.1.0 v).0 (equal_of (order c.1.0 v) e)) (λ j lt. absurd (omega arith))
      | false ↦ λ e. subst (IsBranchOf (c ∷ cases) v) (sym (one_more 1 (case_trees cases) v))
          (behind_it v c cases (λ same. true≢false (sym (ap is_eq ((exact c.1.0 v).1 same)) ∙ e))
          (branch_from 1 (case_trees cases) v) (branch exact cases v))
    ] refl
