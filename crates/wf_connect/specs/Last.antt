-- WHICH ATTEMPT IS THE LAST: the least that has no answer, or whose outcome isn't tried again, or that is the last which the policy allows.
use Rattle.std.specs.Prelude.{◌≡◌, ℕ, zero, suc, ◌≤◌, ◌<◌, Bool, true, false, not, List, [], ◌∷◌, Option, Some, None, if◌then◌else◌}
use Rattle.wf_val.specs.declared.address.Address.{Address}
use Rattle.wf_retry.specs.Again.{again, retries}
use Rattle.wf_retry.specs.declared.policy.Policy.{Policy}
use Rattle.wf_answers.specs.AnswerTree.{AnswerTree, find_answer}
use Rattle.wf_record.specs.declared.attempt.Try.{Try}
use Rattle.wf_connect.specs.Attempts.{TriedTree, tried, try_of}

-- no attempt follows attempt number k with this answer
abbrev pub is_final : Policy → ℕ → Option AnswerTree → Bool
is_final policy k None = true
is_final policy k (Some a) = not (again policy k a.outcome)

-- the answers of a connector, by the numbers of its attempts, from 1 on
abbrev pub Answered : Type 0
Answered = ℕ → Option AnswerTree

-- those of the connector at an address
abbrev pub answered_at : List AnswerTree → Address → Answered
answered_at answers x k = find_answer (x, k) answers

-- the first final attempt from number k on, where at most so many may follow it
abbrev pub last_from : Policy → Answered → ℕ → ℕ → ℕ
last_from policy answers zero k = k
last_from policy answers (suc left) k = if is_final policy k (answers k) then k else last_from policy answers left (suc k)

abbrev pub last_attempt : Policy → Answered → ℕ
last_attempt policy answers = last_from policy answers (retries policy) 1

-- an attempt is the last: it is final, and none before it is
pub record IsLast (policy : Policy) (answers : Answered) (n : ℕ) : Type 0 where
  pub first : 1 ≤ n
  pub final : is_final policy n (answers n) ≡ true
  pub least : (k : ℕ) → 1 ≤ k → k < n → is_final policy k (answers k) ≡ false

-- what a row keeps of so many attempts, from number k on
abbrev pub tries_from : Answered → ℕ → ℕ → List Try
tries_from answers zero k = []
tries_from answers (suc count) k = try_of (answers k) ∷ tries_from answers count (suc k)

-- the attempts of a row, up to the last
abbrev pub tries_of : Policy → Answered → List Try
tries_of policy answers = tries_from answers (last_attempt policy answers) 1

-- how a connector ends: as its last attempt
abbrev pub ending : Policy → Answered → TriedTree
ending policy answers = tried policy (last_attempt policy answers) (answers (last_attempt policy answers))
