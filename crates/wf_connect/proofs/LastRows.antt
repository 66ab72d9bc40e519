-- Worked lists of answers: which attempts a connector makes by them, and how it ends.
use Rattle.std.proofs.Common.{◌≡◌, ℕ, suc, List, [], ◌∷◌, ◌++◌, Some, refl}
use Rattle.std.specs.Prelude.{pos, codes, ⊤}
use Rattle.std.specs.Fmt.{digits}
use Rattle.wf_val.specs.ValueTree.{null, number, object, members, no_members}
use Rattle.wf_val.specs.declared.address.Address.{Address}
use Rattle.wf_retry.specs.declared.policy.Outcome.{Outcome}
use Rattle.wf_retry.specs.declared.policy.Policy.{Policy}
use Rattle.wf_answers.specs.AnswerTree.{AnswerTree}
use Rattle.wf_record.specs.declared.attempt.Try.{Try}
use Rattle.wf_record.specs.declared.status.Status.{Status}
use Rattle.wf_connect.specs.Attempts.{TriedTree, final}
use Rattle.wf_connect.specs.Last.{Answered, answered_at, ending, last_attempt, tries_of}

-- codes are numbers in decimal
unfoldable in_decimal : ⊤
unfolding digits
in_decimal = tt

abbrev at : List ℕ → Address
at is = record { name = codes "Call"; at = is }

-- an answer has the number of its attempt for a body, so that each has another
abbrev answer : Address → ℕ → Outcome → AnswerTree
answer x k o = record { address = x; attempt = k; outcome = o; headers = object no_members; body = number (pos k) }

-- answers of these outcomes for the attempts from number k on
abbrev from : Address → ℕ → List Outcome → List AnswerTree
from x k [] = []
from x k (o ∷ os) = answer x k o ∷ from x (suc k) os

abbrev of : List Outcome → Answered
of os = answered_at (from (at []) 1 os) (at [])

abbrev code : ℕ → Outcome
code n = Outcome.Code n

-- how an action ends that was answered with a status code
abbrev answered : Status → List ℕ → ℕ → ℕ → TriedTree
answered status word n body = final status word (object (members (
    (codes "body", number (pos body)) ∷ (codes "headers", object no_members) ∷ (codes "statusCode", number (pos n)) ∷ [])))

-- ---- the standard policy: four repetitions

abbrev four_then_200 : Answered
four_then_200 = of (code 500 ∷ code 500 ∷ code 500 ∷ code 500 ∷ code 200 ∷ [])

four-tries : tries_of Policy.Standard four_then_200 ≡ Try.Code 500 ∷ Try.Code 500 ∷ Try.Code 500 ∷ Try.Code 500 ∷ Try.Code 200 ∷ []
four-tries = refl

-- the last attempt's status, code and outputs
four-ending : ending Policy.Standard four_then_200 ≡ answered Status.Succeeded (codes "200") 200 5
unfolding in_decimal
four-ending = refl

abbrev five_then_200 : Answered
five_then_200 = of (code 500 ∷ code 501 ∷ code 502 ∷ code 503 ∷ code 504 ∷ code 200 ∷ [])

five-tries : tries_of Policy.Standard five_then_200 ≡ Try.Code 500 ∷ Try.Code 501 ∷ Try.Code 502 ∷ Try.Code 503 ∷ Try.Code 504 ∷ []
five-tries = refl

five-ending : ending Policy.Standard five_then_200 ≡ answered Status.Failed (codes "504") 504 5
unfolding in_decimal
five-ending = refl

-- ---- other policies

never-tries : tries_of Policy.Never (of (code 503 ∷ code 200 ∷ [])) ≡ Try.Code 503 ∷ []
never-tries = refl

never-ending : ending Policy.Never (of (Outcome.NoConnection ∷ code 200 ∷ [])) ≡ final Status.Failed (codes "NoConnection") null
never-ending = refl

once-tries : tries_of (Policy.Count 1) (of (code 503 ∷ code 503 ∷ code 200 ∷ [])) ≡ Try.Code 503 ∷ Try.Code 503 ∷ []
once-tries = refl

once-ending : ending (Policy.Count 1) (of (code 503 ∷ code 503 ∷ code 200 ∷ [])) ≡ answered Status.Failed (codes "503") 503 2
unfolding in_decimal
once-ending = refl

-- as often as any policy allows, and once more than that is no more
ninety-last : last_attempt (Policy.Count 90) (λ (k : ℕ). Some (answer (at []) k (code 503))) ≡ 91
ninety-last = refl

-- ---- what is tried again, and what isn't

passing-tries : tries_of Policy.Standard (of (code 408 ∷ code 429 ∷ Outcome.NoConnection ∷ code 599 ∷ code 200 ∷ []))
    ≡ Try.Code 408 ∷ Try.Code 429 ∷ Try.NoConnection ∷ Try.Code 599 ∷ Try.Code 200 ∷ []
passing-tries = refl

not_found-tries : tries_of Policy.Standard (of (code 404 ∷ code 200 ∷ [])) ≡ Try.Code 404 ∷ []
not_found-tries = refl

not_found-ending : ending Policy.Standard (of (code 404 ∷ code 200 ∷ [])) ≡ answered Status.Failed (codes "404") 404 1
unfolding in_decimal
not_found-ending = refl

-- what was tried again may then not be
later-ending : ending Policy.Standard (of (code 503 ∷ code 404 ∷ code 200 ∷ [])) ≡ answered Status.Failed (codes "404") 404 2
unfolding in_decimal
later-ending = refl

moved-tries : tries_of Policy.Standard (of (code 302 ∷ code 200 ∷ [])) ≡ Try.Code 302 ∷ []
moved-tries = refl

connection-tries : tries_of Policy.Standard (of (Outcome.NoConnection ∷ code 200 ∷ [])) ≡ Try.NoConnection ∷ Try.Code 200 ∷ []
connection-tries = refl

connection-ending : ending Policy.Standard (of (Outcome.NoConnection ∷ code 200 ∷ [])) ≡ answered Status.Succeeded (codes "200") 200 2
unfolding in_decimal
connection-ending = refl

timed_out-tries : tries_of Policy.Standard (of (Outcome.TimedOut ∷ code 200 ∷ [])) ≡ Try.TimedOut ∷ []
timed_out-tries = refl

timed_out-ending : ending Policy.Standard (of (Outcome.TimedOut ∷ code 200 ∷ [])) ≡ final Status.TimedOut (codes "TimedOut") null
timed_out-ending = refl

-- ---- attempts without an answer: they are made, and are the last

none-tries : tries_of Policy.Standard (of []) ≡ Try.NoAnswer ∷ []
none-tries = refl

none-ending : ending Policy.Standard (of []) ≡ final Status.Failed (codes "NoAnswer") null
none-ending = refl

none_more-tries : tries_of Policy.Standard (of (code 429 ∷ [])) ≡ Try.Code 429 ∷ Try.NoAnswer ∷ []
none_more-tries = refl

none_more-ending : ending Policy.Standard (of (code 429 ∷ [])) ≡ final Status.Failed (codes "NoAnswer") null
none_more-ending = refl

-- the third attempt's answer isn't taken for the second's, nor the second's for the first's
missing-tries : tries_of Policy.Standard (answered_at (answer (at []) 1 (code 500) ∷ answer (at []) 3 (code 200) ∷ []) (at []))
    ≡ Try.Code 500 ∷ Try.NoAnswer ∷ []
missing-tries = refl

missing_first-tries : tries_of Policy.Standard (answered_at (from (at []) 2 (code 200 ∷ [])) (at [])) ≡ Try.NoAnswer ∷ []
missing_first-tries = refl

-- ---- of answers for several iterations each takes its own

abbrev of_two : List AnswerTree
of_two = from (at (0 ∷ [])) 1 (code 500 ∷ code 200 ∷ []) ++ from (at (1 ∷ [])) 1 (code 404 ∷ [])

iterations-first : tries_of Policy.Standard (answered_at of_two (at (0 ∷ []))) ≡ Try.Code 500 ∷ Try.Code 200 ∷ []
iterations-first = refl

iterations-second : tries_of Policy.Standard (answered_at of_two (at (1 ∷ []))) ≡ Try.Code 404 ∷ []
iterations-second = refl

iterations-none : tries_of Policy.Standard (answered_at of_two (at [])) ≡ Try.NoAnswer ∷ []
iterations-none = refl
