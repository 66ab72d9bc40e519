-- The last attempt, found by one answer after the other.
use Rattle.std.proofs.Common.{◌≡◌, ℕ, zero, suc, ◌<◌, Bool, true, false, not, ◌&&◌, List, [], ◌∷◌, ◌++◌, Option, Some, None, refl, ap, ◌∙◌}
use Rattle.std.proofs.Common.{append-nil, if◌then◌else◌}
use Rattle.wf_answers.specs.AnswerTree.{AnswerTree}
use Rattle.wf_connect.specs.Attempts.{TriedTree, ends, final, repeated, tried, try_of}
use Rattle.wf_connect.specs.Last.{Answered, IsLast, ending, is_final, last_attempt, last_from, tries_from}
use Rattle.wf_record.specs.declared.attempt.Try.{Try}
use Rattle.wf_retry.specs.Again.{again}
use Rattle.wf_retry.specs.declared.policy.Policy.{Policy}

pub stops : (policy : Policy) (answers : Answered) (left k : ℕ) → is_final policy k (answers k) ≡ true
    → last_from policy answers (suc left) k ≡ k
stops policy answers left k is = ap (λ b. if b then k else last_from policy answers left (suc k)) is

pub goes_on : (policy : Policy) (answers : Answered) (left k : ℕ) → is_final policy k (answers k) ≡ false
    → last_from policy answers (suc left) k ≡ last_from policy answers left (suc k)
goes_on policy answers left k off = ap (λ b. if b then k else last_from policy answers left (suc k)) off

-- After a final attempt it is as if none were allowed to follow the first.
final_is : (policy : Policy) (k : ℕ) (answer : Option AnswerTree) → is_final policy k answer ≡ true
    → tried Policy.Never 1 answer ≡ tried policy k answer
final_is policy k None is = refl
final_is policy k (Some a) is = go (again policy k a.outcome) is
  where
    go : (b : Bool) → not b ≡ true → ends a ≡ (if b then repeated else ends a)
    go true is = absurd (cc)
    go false is = refl

pub last_is : (policy : Policy) (answers : Answered) → IsLast policy answers (last_attempt policy answers)
    → tried Policy.Never 1 (answers (last_attempt policy answers)) ≡ ending policy answers
last_is policy answers last = final_is policy (last_attempt policy answers) (answers (last_attempt policy answers)) last.final

pub one_more : (answers : Answered) (ts : List Try) (left k : ℕ)
    → (ts ++ try_of (answers k) ∷ []) ++ tries_from answers left (suc k) ≡ ts ++ tries_from answers (suc left) k
one_more answers [] left k = refl
one_more answers (t ∷ ts) left k = ap (λ us. t ∷ us) (one_more answers ts left k)
