-- How large a drill is.
use Rattle.std.proofs.Common.{◌≡◌, ℕ, zero, suc, ◌+◌, ◌*◌, ◌/◌, [], ◌∷◌, length}
use Rattle.std.proofs.Common.{refl, ◌∙◌, arith, codes, length-append}
use Rattle.std.proofs.lemmas.Bool.Decides.{nat_tests}
use Rattle.wf_val.specs.ValueTree.{ValueTree}
use Rattle.wf_drill.specs.Calls.{answers, answers_to, call_name, each_call}
use Rattle.wf_drill.specs.Drill.{actions, call, join, numbers, seed}

calls_count : (value : ValueTree) (n : ℕ) → length (each_call value n) ≡ n
calls_count value zero = refl
calls_count value (suc n) =
    length-append (each_call value n) ((call_name n, value) ∷ []) ∙ omega (arith, calls_count value n)

pub actions_count : (n : ℕ) → length (actions n) ≡ n + 3
actions_count n =
    omega (arith, length-append (each_call call n) ((codes "J", join n) ∷ (codes "Seed", seed n) ∷ []), calls_count call n)

answers_one : (k : ℕ) → length (answers_to k) + (k + 2) / 3 ≡ 1 + (k + 3) / 3
answers_one k = grind (arith, nat_tests)

pub answers_count : (n : ℕ) → length (answers n) ≡ n + (n + 2) / 3
answers_count zero = refl
answers_count (suc n) =
    omega (arith, length-append (answers n) (answers_to n), answers_count n, answers_one n)

pub numbers_count : (first step count : ℕ) → length (numbers first step count) ≡ count
numbers_count first step zero = refl
numbers_count first step (suc n) =
    length-append (numbers first step n) ((first + step * n) ∷ []) ∙ omega (arith, numbers_count first step n)
